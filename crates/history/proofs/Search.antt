-- The search of a history that was tested, place by place from the newest back.
use Rattle.std.proofs.Common.{Some, None, eq-eqb, ne_eqb, ◌≡◌, ℕ, suc, ◌+◌, ◌-◌, ◌<◌, ◌≤◌, Bool, true, false, T, ◌≢◌, List, get_or, sym, refl, ap, ◌∙◌, inl, inr, arith}
use native.Mathlib.Decide.{dec_lt, ℕ_discrete}
use Rattle.rules.specs.Cells.{every}
use Rattle.rules.specs.History.{back, not_after, never_rises, find_from, find}
use Rattle.history.specs.Found.{place_found}
use Rattle.rules.proofs.Tests.{every_at, holds}
use Rattle.rules.proofs.Ring.{back_new, back_old, back_lt, back_back, falls, match_parts, match_make, Found, found, hit}
use Rattle.rules.proofs.Memory.{not_after_lem}

-- ---- one place back, in a ring of h places whose next one is p

before_0 : (h q : ℕ) → q < h → q ≡ 0 → back h q 0 ≡ h - 1
before_0 h q qh z = back_old h q qh 0 (omega arith) ∙ omega arith

before_some : (h q : ℕ) → q < h → 0 < q → back h q 0 ≡ q - 1
before_some h q qh l = back_new h q qh 0 l ∙ omega arith

-- The search goes down to place 0 and then from place h - 1 down to p. `low` is where the part with place q ends: p, or 0 while q is below p.
abbrev pub Part : ℕ → ℕ → ℕ → Type 0
Part p q low = (low ≤ q) × (low ≢ p → (low ≡ 0) × (q < p))

pub first_part : (h p q : ℕ) → p < h → q ≡ back h p 0 → Part p q 0
first_part h p q ph e = (omega arith, λ n. (refl, omega (arith, e ∙ before_some h p ph (omega arith))))

-- from q the search goes on at x - 1
pub record Onward (h p q x low : ℕ) : Type 0 where
  pub some : 1 ≤ x
  pub inside : x - 1 < h
  pub before : x - 1 ≡ back h q 0
  pub other : q ≢ p
  pub part : Part p (x - 1) low

module _ (h p q low x low' : ℕ) (ph : p < h) (qh : q < h) (part : Part p q low) where
  pub wraps : q ≡ low → low ≢ p → x ≡ h → low' ≡ p → Onward h p q x low'
  wraps e n ex el =
      let z = part.1 n in
      record {
        some = omega arith;
        inside = omega arith;
        before = (omega arith) ∙ sym (before_0 h q qh (omega arith));
        other = omega arith;
        part = (omega arith, λ m. absurd (m el));
      }

  within : q ≢ low → q ≢ p
  within n y = go (ℕ_discrete low p)
    where
      go : Dec (low ≡ p) → ⊥
      go (yes e) = n (y ∙ sym e)
      go (no e) = let z = part.1 e in omega arith

  pub steps : q ≢ low → x ≡ q → low' ≡ low → Onward h p q x low'
  steps n ex el =
      record {
        some = omega (arith, part.0);
        inside = omega arith;
        before = (omega arith) ∙ sym (before_some h q qh (omega (arith, part.0)));
        other = within n;
        part = (omega (arith, part.0), λ m. let z = part.1 (λ y. m (el ∙ y)) in (el ∙ z.0, omega (arith, z.1)));
      }

-- the place before q is one step further back from the newest
pub back_more : (h p q r : ℕ) → p < h → q < h → r ≡ back h q 0 → q ≢ p → back h p r ≡ suc (back h p q)
back_more h p q r ph qh e n = go (dec_lt q p) (ℕ_discrete q 0)
  where
    go : Dec (q < p) → Dec (q ≡ 0) → back h p r ≡ suc (back h p q)
    go (yes l) (yes z) =
        let x : r ≡ h - 1 = e ∙ before_0 h q qh z in
        rw (back_new h p ph q l, back_old h p ph r (omega arith)) (omega arith)
    go (yes l) (no z) =
        let x : r ≡ q - 1 = e ∙ before_some h q qh (omega arith) in
        rw (back_new h p ph q l, back_new h p ph r (omega arith)) (omega arith)
    go (no l) (yes z) = absurd (omega arith)
    go (no l) (no z) =
        let x : r ≡ q - 1 = e ∙ before_some h q qh (omega arith) in
        rw (back_old h p ph q (omega arith), back_old h p ph r (omega arith)) (omega arith)

-- ---- the search of n places from the i-th newest on

-- one step of the search: x where the place matches, else what is found further back
abbrev pick : Bool → ℕ → ℕ → ℕ
pick b x y = elim b [ true ↦ x | false ↦ y ]

here_or : (b : Bool) (x y : ℕ) → T b → pick b x y ≡ x
here_or true x y h = refl
here_or false x y h = absurd h

or_further : (b : Bool) (x y : ℕ) → (T b → ⊥) → pick b x y ≡ y
or_further true x y h = absurd (h tt)
or_further false x y h = refl

module _ (h td p : ℕ) (ticks rows : List ℕ) (word t : ℕ) where
  -- what the search yields
  abbrev from : ℕ → ℕ → ℕ
  from i n = find_from h td p ticks rows word t i n

  -- what it yields from place q on
  abbrev pub further : ℕ → ℕ
  further q = from (back h p q) (h - back h p q)

  module _ (ph : p < h) where
    -- the whole search starts at the newest place
    pub whole : (q : ℕ) → q ≡ back h p 0 → further q ≡ find h td p ticks rows word t
    unfolding find
    whole q e =
        let z : back h p q ≡ 0 = ap (back h p) e ∙ back_back h p ph 0 (omega arith) in
        let y : h - 0 ≡ h = omega arith in
        rw (z, y)

    -- it has another row
    search_on : (i n : ℕ) → get_or rows (back h p i) 0 ≢ word → from i (suc n) ≡ from (suc i) n
    search_on i n e =
        or_further (hit h td p ticks rows word t ph i) (back h p i) (from (suc i) n)
        (λ m. e (match_parts td word t (get_or ticks (back h p i) 0) (get_or rows (back h p i) 0) m).same)

    module _ (limit : ℕ) (el : limit ≡ t + 1 - td) (steady : never_rises h p ticks ≡ true) (past : every h (λ x. not_after t (get_or ticks x 0)) ≡ true) where
      -- from a place on that is empty or too old, nothing matches
      search_end : (i n : ℕ) → i + n ≤ h → get_or ticks (back h p i) 0 ≤ limit → from i n ≡ h
      search_end i n ih old = go (found h td p ticks rows word t ph i n)
        where
          go : Found h td p ticks rows word t ph i n (from i n) → from i n ≡ h
          go (inl f) = f.0
          go (inr f) =
              let k = f.0 in
              let z : i + (k - i) ≡ k = omega (arith, f.2) in
              let m = match_parts td word t (get_or ticks (back h p k) 0) (get_or rows (back h p k) 0) f.4 in
              let g = falls h p ticks (holds (never_rises h p ticks) steady) i (k - i) (omega (arith, f.2, f.3)) in
              absurd (omega (arith, rw z at g))

      -- the place is not too old and has the row
      search_hit : (i n : ℕ) → i < h → limit < get_or ticks (back h p i) 0 → get_or rows (back h p i) 0 ≡ word → from i (suc n) ≡ back h p i
      search_hit i n ih new e =
          let low : get_or ticks (back h p i) 0 ≤ t + 1 = not_after_lem t (get_or ticks (back h p i) 0) (every_at h (λ x. not_after t (get_or ticks x 0)) (holds (every h (λ x. not_after t (get_or ticks x 0))) past) (back h p i) (back_lt h p ph i ih)) in
          here_or (hit h td p ticks rows word t ph i) (back h p i) (from (suc i) n)
          (match_make td word t (get_or ticks (back h p i) 0) (get_or rows (back h p i) 0) (record { some = omega arith; same = e; past = omega arith; young = omega arith }))

    module _ (q : ℕ) (qh : q < h) where
      here : back h p (back h p q) ≡ q
      here = back_back h p ph q qh

      first : further q ≡ from (back h p q) (suc (h - suc (back h p q)))
      first =
          let l : back h p q < h = back_lt h p ph q qh in
          let z : h - back h p q ≡ suc (h - suc (back h p q)) = omega arith in
          ap (from (back h p q)) z

      passed : get_or rows q 0 ≢ word → further q ≡ from (suc (back h p q)) (h - suc (back h p q))
      passed w = first ∙ search_on (back h p q) (h - suc (back h p q)) (rw here w)

      -- it has another row; r is the place before it
      pub on_at : (r : ℕ) → r ≡ back h q 0 → q ≢ p → get_or rows q 0 ≢ word → further q ≡ further r
      on_at r e n w = passed w ∙ ap (λ i. from i (h - i)) (sym (back_more h p q r ph qh e n))

      -- or it is the next place, which is the oldest
      pub none_at : q ≡ p → get_or rows q 0 ≢ word → further q ≡ h
      none_at e w =
          let o : back h p q ≡ p + h - 1 - q = back_old h p ph q (omega arith) in
          let z : h - suc (back h p q) ≡ 0 = omega arith in
          passed w ∙ ap (from (suc (back h p q))) z

      module _ (limit : ℕ) (el : limit ≡ t + 1 - td) (steady : never_rises h p ticks ≡ true) (past : every h (λ x. not_after t (get_or ticks x 0)) ≡ true) where
        pub old_at : get_or ticks q 0 ≤ limit → further q ≡ h
        old_at old =
            let l : back h p q < h = back_lt h p ph q qh in
            search_end limit el steady past (back h p q) (h - back h p q) (omega arith) (rw here old)

        pub hit_at : limit < get_or ticks q 0 → get_or rows q 0 ≡ word → further q ≡ q
        hit_at new w =
            first
            ∙ search_hit limit el steady past (back h p q) (h - suc (back h p q)) (back_lt h p ph q qh) (rw here new) (rw here w)
            ∙ here

-- ---- the result as an option

pub found_none : (h place : ℕ) → place ≡ h → None ≡ place_found h place
unfolding place_found
found_none h place e = rw (eq-eqb place h e) refl

pub found_some : (h q place : ℕ) → place ≡ q → q < h → Some q ≡ place_found h place
unfolding place_found
found_some h q place e l = rw (e, ne_eqb q h (omega arith)) refl
