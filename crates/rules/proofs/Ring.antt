-- The history ring: its places, the order from the newest back, and what the search tells.
use mathlib.Core.Path.{◌≡◌, refl, sym, ◌∙◌, subst}
use mathlib.Core.Logic.{◌≢◌, ◌⊎◌, inl, inr}
use mathlib.Core.List.{List}
use mathlib.Core.Bool.{Bool, true, false, not, ◌&&◌}
use Prim.Native.Nat.{ℕ, zero, suc, ◌+◌, ◌-◌, ◌≤◌, ◌<◌}
use native.Mathlib.Omega.{arith}
use native.Mathlib.Nat.{le_refl, le_trans}
use native.Mathlib.Decide.{dec_lt, ℕ_discrete}
use lib.Dec.{T, leb, ltb, eqb, leb→le, le→leb, ltb→lt, lt→ltb, eqb→eq, eqb_refl, not_T, T_not}
use lib.Arith.{le→nltb}
use lib.ListN.{get_or}
use Rattle.head.specs.Head.{next_place}
use Rattle.rules.specs.History.{back, never_rises, matches, row_free, find_from, find}
use Rattle.rules.proofs.Tests.{and_i, and_l, and_r, cond_yes, cond_no, every_at, every_all, holds, fails}

-- ---- places

module _ (h p : ℕ) (ph : p < h) where
  pub back_new : (i : ℕ) → i < p → back h p i ≡ p - 1 - i
  unfolding back
  back_new i k = cond_yes (ltb i p) (p - 1 - i) (p + h - 1 - i) (lt→ltb i p k)

  pub back_old : (i : ℕ) → p ≤ i → back h p i ≡ p + h - 1 - i
  unfolding back
  back_old i k = cond_no (ltb i p) (p - 1 - i) (p + h - 1 - i) (le→nltb i p k)

  pub back_lt : (i : ℕ) → i < h → back h p i < h
  back_lt i ih = go (dec_lt i p)
    where
      go : Dec (i < p) → back h p i < h
      go (yes k) = rw (back_new i k) (omega arith)
      go (no k) = rw (back_old i (omega arith)) (omega arith)

  -- every place is some steps back from the newest: as many as the place that is that number of steps back
  pub back_back : (i : ℕ) → i < h → back h p (back h p i) ≡ i
  back_back i ih = go (dec_lt i p)
    where
      go : Dec (i < p) → back h p (back h p i) ≡ i
      go (yes k) = rw (back_new i k) (back_new (p - 1 - i) (omega arith) ∙ omega arith)
      go (no k) = rw (back_old i (omega arith)) (back_old (p + h - 1 - i) (omega arith) ∙ omega arith)

  -- the next place is the oldest one
  pub back_other : (i : ℕ) → suc i < h → back h p i ≢ p
  back_other i ih = go (dec_lt i p)
    where
      go : Dec (i < p) → back h p i ≢ p
      go (yes k) = rw (back_new i k) (omega arith)
      go (no k) = rw (back_old i (omega arith)) (omega arith)

  pub next_wrap : p + 1 ≡ h → next_place h p ≡ 0
  unfolding next_place
  next_wrap e = cond_yes (eqb (p + 1) h) 0 (p + 1) (subst (λ x. T (eqb (p + 1) x)) e (eqb_refl (p + 1)))

  pub next_on : p + 1 ≢ h → next_place h p ≡ p + 1
  unfolding next_place
  next_on e = cond_no (eqb (p + 1) h) 0 (p + 1) (not_T (eqb (p + 1) h) (λ q. e (eqb→eq (p + 1) h q)))

  pub next_lt : next_place h p < h
  next_lt = go (ℕ_discrete (p + 1) h)
    where
      go : Dec (p + 1 ≡ h) → next_place h p < h
      go (yes e) = rw (next_wrap e) (omega arith)
      go (no e) = rw (next_on e) (omega arith)

module _ (h p : ℕ) (ph : p < h) where
  -- after an activation the newest place is where the next one was, and the others are one step further back
  pub back_first : back h (next_place h p) 0 ≡ p
  back_first = go (ℕ_discrete (p + 1) h)
    where
      go : Dec (p + 1 ≡ h) → back h (next_place h p) 0 ≡ p
      go (yes e) = rw (next_wrap h p ph e) (back_old h 0 (omega arith) 0 (omega arith) ∙ omega arith)
      go (no e) = rw (next_on h p ph e) (back_new h (p + 1) (omega arith) 0 (omega arith) ∙ omega arith)

  pub back_next : (i : ℕ) → suc i < h → back h (next_place h p) (suc i) ≡ back h p i
  back_next i ih = go (ℕ_discrete (p + 1) h) (dec_lt i p)
    where
      go : Dec (p + 1 ≡ h) → Dec (i < p) → back h (next_place h p) (suc i) ≡ back h p i
      go (yes e) (yes l) = rw (next_wrap h p ph e) (back_old h 0 (omega arith) (suc i) (omega arith) ∙ (omega arith) ∙ sym (back_new h p ph i l))
      go (yes e) (no l) = absurd (omega arith)
      go (no e) (yes l) = rw (next_on h p ph e) (back_new h (p + 1) (omega arith) (suc i) (omega arith) ∙ (omega arith) ∙ sym (back_new h p ph i l))
      go (no e) (no l) = rw (next_on h p ph e) (back_old h (p + 1) (omega arith) (suc i) (omega arith) ∙ (omega arith) ∙ sym (back_old h p ph i (omega arith)))

-- ---- stored ticks that never rise

module _ (h p : ℕ) (ticks : List ℕ) (steady : T (never_rises h p ticks)) where
  pub falls_one : (i : ℕ) → suc i < h → get_or ticks (back h p (suc i)) 0 ≤ get_or ticks (back h p i) 0
  unfolding never_rises
  falls_one i ih =
      leb→le (get_or ticks (back h p (suc i)) 0) (get_or ticks (back h p i) 0)
      (every_at (h - 1) (λ i. leb (get_or ticks (back h p (suc i)) 0) (get_or ticks (back h p i) 0)) steady i (omega arith))

  -- an older place holds a stored tick that is not greater
  pub falls : (i k : ℕ) → i + k < h → get_or ticks (back h p (i + k)) 0 ≤ get_or ticks (back h p i) 0
  falls i zero ih =
      let e : i + 0 ≡ i = omega arith in
      rw e (le_refl (get_or ticks (back h p i) 0))
  falls i (suc k) ih =
      let e : i + suc k ≡ suc (i + k) = omega arith in
      rw e (le_trans (falls_one (i + k) (omega arith)) (falls i k (omega arith)))

-- ---- a match

pub record Match (td word t stored w : ℕ) : Type 0 where
  pub some : stored ≢ 0
  pub same : w ≡ word
  pub past : stored - 1 ≤ t
  pub young : t < stored - 1 + td

module _ (td word t stored w : ℕ) where
  abbrev some? : Bool
  some? = not (eqb stored 0)

  abbrev past? : Bool
  past? = leb (stored - 1) t

  abbrev young? : Bool
  young? = ltb t (stored - 1 + td)

  pub match_parts : T (matches td word t stored w) → Match td word t stored w
  match_parts h =
      let h3 = and_l (some? && eqb w word && past?) young? h in
      let h2 = and_l (some? && eqb w word) past? h3 in
      record {
        some = λ z. T_not (eqb stored 0) (and_l some? (eqb w word) h2) (subst (λ x. T (eqb x 0)) (sym z) tt);
        same = eqb→eq w word (and_r some? (eqb w word) h2);
        past = leb→le (stored - 1) t (and_r (some? && eqb w word) past? h3);
        young = ltb→lt t (stored - 1 + td) (and_r (some? && eqb w word && past?) young? h);
      }

  pub match_make : Match td word t stored w → T (matches td word t stored w)
  match_make m =
      and_i (some? && eqb w word && past?) young?
      (and_i (some? && eqb w word) past?
      (and_i some? (eqb w word) (not_T (eqb stored 0) (λ q. m.some (eqb→eq stored 0 q))) (subst (λ x. T (eqb x word)) (sym m.same) (eqb_refl word)))
      (le→leb (stored - 1) t m.past))
      (lt→ltb t (stored - 1 + td) m.young)

-- ---- the search

module _ (h td p : ℕ) (ticks rows : List ℕ) (word t : ℕ) (ph : p < h) where
  -- the i-th newest place matches
  abbrev pub hit : ℕ → Bool
  hit i = matches td word t (get_or ticks (back h p i) 0) (get_or rows (back h p i) 0)

  -- what the search of n places from the i-th newest on has found: none, or the first
  abbrev pub Found : ℕ → ℕ → ℕ → Type 0
  Found i n f =
      ((f ≡ h) × ((j : ℕ) → i ≤ j → j < i + n → T (not (hit j))))
      ⊎ ((k : ℕ) × (f ≡ back h p k) × (i ≤ k) × (k < i + n) × T (hit k) × ((j : ℕ) → i ≤ j → j < k → T (not (hit j))))

  pub found : (i n : ℕ) → Found i n (find_from h td p ticks rows word t i n)
  found i zero = inl (refl, λ j lo hi. absurd (omega arith))
  found i (suc n) = go (hit i) refl (found (suc i) n)
    where
      here : hit i ≡ false → (j : ℕ) → i ≤ j → (suc i ≤ j → T (not (hit j))) → T (not (hit j))
      here e j lo f = pick (ℕ_discrete i j)
        where
          pick : Dec (i ≡ j) → T (not (hit j))
          pick (yes d) = subst (λ x. T (not (hit x))) d (fails (hit i) e)
          pick (no d) = f (omega arith)

      go : (q : Bool) → hit i ≡ q → Found (suc i) n (find_from h td p ticks rows word t (suc i) n)
          → Found i (suc n) (elim q [ true ↦ back h p i | false ↦ find_from h td p ticks rows word t (suc i) n ])
      go true e ih = inr (i, refl, le_refl i, omega arith, holds (hit i) e, λ j lo hi. absurd (omega arith))
      go false e (inl (f, none)) = inl (f, λ j lo hi. here e j lo (λ l. none j l (omega arith)))
      go false e (inr k) = inr (k.0, k.1, omega (arith, k.2), omega (arith, k.3), k.4, λ j lo hi. here e j lo (λ l. k.5 j l hi))

  pub all_found : Found 0 h (find h td p ticks rows word t)
  unfolding find
  all_found = found 0 h

  -- the row is free where no place of the ring, in its order, matches
  pub free_none : T (row_free h td ticks rows word t) → (i : ℕ) → i < h → T (not (hit i))
  unfolding row_free
  free_none f i ih = every_at h (λ q. not (matches td word t (get_or ticks q 0) (get_or rows q 0))) f (back h p i) (back_lt h p ph i ih)

  pub none_free : ((i : ℕ) → i < h → T (not (hit i))) → T (row_free h td ticks rows word t)
  unfolding row_free
  none_free f =
      every_all h (λ q. not (matches td word t (get_or ticks q 0) (get_or rows q 0)))
      (λ q qh. subst (λ x. T (not (matches td word t (get_or ticks x 0) (get_or rows x 0)))) (back_back h p ph q qh) (f (back h p q) (back_lt h p ph q qh)))
