-- One row's activations, as a list of ticks, newest first: how many fit in a span of ticks.
-- An activation is free if fewer than N older ones lie in its epoch and the one before; any other is tD after all older ones.
use mathlib.Core.Path.{◌≡◌, refl, sym, ap, ◌∙◌, subst}
use mathlib.Core.Logic.{◌⊎◌, inl, inr}
use mathlib.Core.List.{List, [], ◌∷◌}
use mathlib.Core.Bool.{Bool, true, false, not, ◌&&◌, cond}
use Prim.Native.Nat.{ℕ, zero, suc, ◌+◌, ◌-◌, ◌*◌, ◌/◌, ◌≤◌, ◌<◌}
use native.Mathlib.Omega.{arith}
use native.Mathlib.Nat.{le-div_iff_mul-le, div-lt_iff_lt-mul, div-mul-le_self, lt-div-mul-add, mul-le-mul_left, le_dest}
use native.Mathlib.Decide.{dec_le}
use lib.Dec.{T, leb, ltb, leb→le, le→leb, ltb→lt, lt→ltb, nleb→lt}
use Rattle.rules.specs.Cells.{more, count}
use Rattle.rules.specs.Calls.{in_span}
use Rattle.rules.proofs.Tests.{and_i, and_l, and_r, holds, fails}
use Rattle.rules.proofs.Counting.{count_le, count_or}

-- every tick of the list is at least g before t
abbrev pub Before : ℕ → ℕ → List ℕ → Type 0
Before g t [] = Unit {0}
Before g t (u ∷ us) = (u + g ≤ t) × Before g t us

-- how many ticks of the list lie in epoch e - 1 or later, epochs being of length d
abbrev pub near : ℕ → ℕ → List ℕ → ℕ
near d e us = count (λ u. leb e (u / d + 1)) us

-- what the rules promise of one row's activations
abbrev pub Row : ℕ → ℕ → ℕ → ℕ → List ℕ → Type 0
Row d n trc td [] = Unit {0}
Row d n trc td (t ∷ us) = Row d n trc td us × Before trc t us × ((near d (t / d) us < n) ⊎ Before td t us)

-- the newest activation is free: the filter's test lets it pass
abbrev pub is_free : ℕ → ℕ → ℕ → List ℕ → Bool
is_free d n t us = ltb (near d (t / d) us) n

abbrev keep : Bool → ℕ → List ℕ → List ℕ
keep true t l = t ∷ l
keep false t l = l

-- the free activations, and the others
abbrev free : ℕ → ℕ → List ℕ → List ℕ
free d n [] = []
free d n (t ∷ us) = keep (is_free d n t us) t (free d n us)

abbrev delayed : ℕ → ℕ → List ℕ → List ℕ
delayed d n [] = []
delayed d n (t ∷ us) = keep (not (is_free d n t us)) t (delayed d n us)

split_count : (p : ℕ → Bool) (d n : ℕ) (l : List ℕ) → count p l ≡ count p (free d n l) + count p (delayed d n l)
split_count p d n [] = refl
split_count p d n (t ∷ us) = go (p t) (is_free d n t us) refl (split_count p d n us)
  where
    go : (a f : Bool) → p t ≡ a → count p us ≡ count p (free d n us) + count p (delayed d n us)
        → more (p t) (count p us) ≡ count p (keep f t (free d n us)) + count p (keep (not f) t (delayed d n us))
    go true true e h = rw e (omega arith)
    go true false e h = rw e (omega arith)
    go false true e h = rw e (omega arith)
    go false false e h = rw e (omega arith)

-- each activation is a gap after all older ones: a after a free one's test, b for another
abbrev Gaps : ℕ → ℕ → ℕ → ℕ → List ℕ → Type 0
Gaps d n a b [] = Unit {0}
Gaps d n a b (t ∷ us) = Gaps d n a b us × Before (cond (is_free d n t us) a b) t us

row_gaps : (d n trc td : ℕ) (l : List ℕ) → Row d n trc td l → Gaps d n trc td l × Gaps d n trc trc l
row_gaps d n trc td [] r = (tt, tt)
row_gaps d n trc td (t ∷ us) r =
    let g = row_gaps d n trc td us r.0 in
    ((g.0, go (is_free d n t us) refl r.2), (g.1, same (is_free d n t us)))
  where
    go : (f : Bool) → is_free d n t us ≡ f → (near d (t / d) us < n) ⊎ Before td t us → Before (cond f trc td) t us
    go true e h = r.1
    go false e (inl h) = absurd (subst T e (lt→ltb (near d (t / d) us) n h))
    go false e (inr h) = h

    same : (f : Bool) → Before (cond f trc trc) t us
    same true = r.1
    same false = r.1

-- ---- the ticks that a number of activations take

-- The activations that pass the test p, all at s or later, cost a each if free and b if not; m is the most that the oldest can cost.
-- Reach: there is none, or the newest is at some h that lies as far before any t as the whole list does, and the cost is at most h + m - s.
module _ (d n a b m s : ℕ) (p : ℕ → Bool) where
  abbrev cost : List ℕ → ℕ
  cost l = count p (free d n l) * a + count p (delayed d n l) * b

  abbrev Reach : ℕ → List ℕ → Type 0
  Reach c l = (c ≡ 0) ⊎ ((h : ℕ) × T (p h) × (c + s ≤ h + m) × ((w t : ℕ) → Before w t l → h + w ≤ t))

  reach : ((u : ℕ) → T (p u) → s ≤ u) → a ≤ m → b ≤ m → (l : List ℕ) → Gaps d n a b l → Reach (cost l) l
  reach from am bm [] g = inl (omega arith)
  reach from am bm (t ∷ us) g = go (p t) refl (is_free d n t us) g.1 (reach from am bm us g.0)
    where
      total : Bool → ℕ
      total f = count p (keep f t (free d n us)) * a + count p (keep (not f) t (delayed d n us)) * b

      skip : p t ≡ false → (f : Bool) → total f ≡ cost us
      skip e true = rw e
      skip e false = rw e

      take : p t ≡ true → (f : Bool) → total f ≡ cost us + cond f a b
      take e true = rw e (omega arith)
      take e false = rw e (omega arith)

      small : (f : Bool) → cond f a b ≤ m
      small true = am
      small false = bm

      go : (q : Bool) → p t ≡ q → (f : Bool) → Before (cond f a b) t us → Reach (cost us) us → Reach (total f) (t ∷ us)
      go false e f bef (inl z) = inl (skip e f ∙ z)
      go false e f bef (inr r) = inr (r.0, r.1, omega (arith, skip e f, r.2), λ w v k. r.3 w v k.1)
      go true e f bef (inl z) =
          let ph : T (p t) = holds (p t) e in
          inr (t, ph, omega (arith, take e f, small f, from t ph), λ w v k. k.0)
      go true e f bef (inr r) =
          let ph : T (p t) = holds (p t) e in
          inr (t, ph, omega (arith, take e f, r.2, r.3 (cond f a b) t bef), λ w v k. k.0)

-- ---- free activations in successive epochs

-- the tick is in one of the c epochs from k on
abbrev in_epochs : ℕ → ℕ → ℕ → ℕ → Bool
in_epochs d k c u = leb k (u / d) && ltb (u / d) (k + c)

epochs_i : (d k c u : ℕ) → k ≤ u / d → u / d < k + c → T (in_epochs d k c u)
epochs_i d k c u a b = and_i (leb k (u / d)) (ltb (u / d) (k + c)) (le→leb k (u / d) a) (lt→ltb (u / d) (k + c) b)

epochs_lo : (d k c u : ℕ) → T (in_epochs d k c u) → k ≤ u / d
epochs_lo d k c u h = leb→le k (u / d) (and_l (leb k (u / d)) (ltb (u / d) (k + c)) h)

epochs_hi : (d k c u : ℕ) → T (in_epochs d k c u) → u / d < k + c
epochs_hi d k c u h = ltb→lt (u / d) (k + c) (and_r (leb k (u / d)) (ltb (u / d) (k + c)) h)

-- At most n in two epochs: the newest free one of them has seen all the others.
two_epochs : (d n k : ℕ) (l : List ℕ) → count (in_epochs d k 2) (free d n l) ≤ n
two_epochs d n k [] = omega arith
two_epochs d n k (t ∷ us) = go (in_epochs d k 2 t) refl (is_free d n t us) refl (two_epochs d n k us)
  where
    go : (q : Bool) → in_epochs d k 2 t ≡ q → (f : Bool) → is_free d n t us ≡ f → count (in_epochs d k 2) (free d n us) ≤ n
        → count (in_epochs d k 2) (keep f t (free d n us)) ≤ n
    go q e false e' h = h
    go false e true e' h = rw e h
    go true e true e' h =
        let w : T (in_epochs d k 2 t) = holds (in_epochs d k 2 t) e in
        let few : near d (t / d) us < n = ltb→lt (near d (t / d) us) n (subst T (sym e') tt) in
        let seen : count (in_epochs d k 2) us ≤ near d (t / d) us =
        count_le (in_epochs d k 2) (λ u. leb (t / d) (u / d + 1))
        (λ u x. le→leb (t / d) (u / d + 1) (omega (arith, epochs_hi d k 2 t w, epochs_lo d k 2 u x))) us in
        rw e (omega (arith, few, seen, split_count (in_epochs d k 2) d n us))

-- so at most n * c in 2 * c epochs
even_epochs : (d n k c : ℕ) (l : List ℕ) → count (in_epochs d k (2 * c)) (free d n l) ≤ n * c
even_epochs d n k zero l =
    omega (arith, count_le (in_epochs d k (2 * zero)) (λ u. false) (λ u x. absurd (outside u x)) (free d n l), zeros (free d n l))
  where
    outside : (u : ℕ) → T (in_epochs d k (2 * zero) u) → ⊥
    outside u x = omega (arith, epochs_lo d k 0 u x, epochs_hi d k 0 u x)

    zeros : (l : List ℕ) → count (λ u. false) l ≡ 0
    zeros [] = refl
    zeros (x ∷ xs) = zeros xs
even_epochs d n k (suc c) l =
    omega (arith, count_or (in_epochs d k (2 * suc c)) (in_epochs d k 2) (in_epochs d (k + 2) (2 * c)) halves (free d n l), two_epochs d n k l, even_epochs d n (k + 2) c l)
  where
    halves : (u : ℕ) → T (in_epochs d k (2 * suc c) u) → T (in_epochs d k 2 u) ⊎ T (in_epochs d (k + 2) (2 * c) u)
    halves u x = go (leb (k + 2) (u / d)) refl
      where
        go : (b : Bool) → leb (k + 2) (u / d) ≡ b → T (in_epochs d k 2 u) ⊎ T (in_epochs d (k + 2) (2 * c) u)
        go true e = inr (epochs_i d (k + 2) (2 * c) u (leb→le (k + 2) (u / d) (holds (leb (k + 2) (u / d)) e)) (omega (arith, epochs_hi d k (2 * suc c) u x)))
        go false e = inl (epochs_i d k 2 u (epochs_lo d k (2 * suc c) u x) (nleb→lt (k + 2) (u / d) (fails (leb (k + 2) (u / d)) e)))

-- ---- the bound

-- f activations at a cost of a each, at most F of them, and g at a cost of b each, within y and one more b
most : (f g F y a b : ℕ) → 1 ≤ b → a ≤ b → f ≤ F → f * a + g * b ≤ y + b → F * a ≤ y → f + g ≤ F + 1 + (y - F * a) / b
most f g F y a b pos ab fF c room = go (dec_le (F + 1) (f + g))
  where
    beyond : (q : ℕ) × (F + 1 + q ≡ f + g) → (x : ℕ) × (f + x ≡ F) → f + g ≤ F + 1 + (y - F * a) / b
    beyond (q, e) (x, k) =
        let gq : g ≡ 1 + q + x = omega arith in
        let gb : g * b ≡ (1 + q + x) * b = ap (λ z. z * b) gq in
        let fa : (f + x) * a ≡ F * a = ap (λ z. z * a) k in
        let le : q ≤ (y - F * a) / b = (le-div_iff_mul-le pos).1 (omega (arith, mul-le-mul_left x ab)) in
        omega arith

    go : Dec (F + 1 ≤ f + g) → f + g ≤ F + 1 + (y - F * a) / b
    go (no h) = omega arith
    go (yes h) = beyond (le_dest h) (le_dest fF)

most_equal : (f g y a : ℕ) → 1 ≤ a → f * a + g * a ≤ y + a → f + g ≤ 1 + y / a
most_equal f g y a pos c = go (f + g) refl
  where
    go : (k : ℕ) → f + g ≡ k → f + g ≤ 1 + y / a
    go zero e = omega arith
    go (suc k) e =
        let ka : (f + g) * a ≡ suc k * a = ap (λ z. z * a) e in
        let le : k ≤ y / a = (le-div_iff_mul-le pos).1 (omega arith) in
        omega arith

span_lo : (s x u : ℕ) → T (in_span s x u) → s ≤ u
span_lo s x u h = leb→le s u (and_l (leb s u) (ltb u (s + x)) h)

span_hi : (s x u : ℕ) → T (in_span s x u) → u < s + x
span_hi s x u h = ltb→lt u (s + x) (and_r (leb s u) (ltb u (s + x)) h)

-- a span of x ticks that c epochs and one tick cover, and so 2 * k epochs wherever it starts
module _ (d n trc td s x c k : ℕ) (d1 : 1 ≤ d) (x1 : 1 ≤ x) (cover : x ≤ c * d + 1) (pairs : c + 1 ≤ 2 * k) where
  span_epochs : (u : ℕ) → T (in_span s x u) → T (in_epochs d (s / d) (2 * k) u)
  span_epochs u h =
      let lo : s / d * d ≤ u = omega (arith, div-mul-le_self s d, span_lo s x u h) in
      let hi : u < (s / d + (c + 1)) * d = omega (arith, lt-div-mul-add {a = s} {b = d} d1, span_hi s x u h) in
      epochs_i d (s / d) (2 * k) u ((le-div_iff_mul-le d1).1 lo) (omega (arith, (div-lt_iff_lt-mul {k = d} {x = u} {y = s / d + (c + 1)} d1).1 hi))

  few_free : (l : List ℕ) → count (in_span s x) (free d n l) ≤ n * k
  few_free l = omega (arith, count_le (in_span s x) (in_epochs d (s / d) (2 * k)) span_epochs (free d n l), even_epochs d n (s / d) k l)

  -- the cost of the span's activations, with g the greater gap
  span_cost : (a b : ℕ) → a ≤ b → (l : List ℕ) → Gaps d n a b l
      → count (in_span s x) (free d n l) * a + count (in_span s x) (delayed d n l) * b ≤ x - 1 + b
  span_cost a b ab l g = go (reach d n a b b s (in_span s x) (span_lo s x) ab (omega arith) l g)
    where
      go : Reach d n a b b s (in_span s x) (cost d n a b b s (in_span s x) l) l → cost d n a b b s (in_span s x) l ≤ x - 1 + b
      go (inl z) = omega arith
      go (inr h) = omega (arith, h.2, span_hi s x h.0 h.1)

  pub row_span : 1 ≤ trc → trc ≤ td → (l : List ℕ) → Row d n trc td l → n * k * trc ≤ x - 1
      → count (in_span s x) l ≤ n * k + 1 + (x - 1 - n * k * trc) / td
  row_span r1 rd l r room =
      let c = span_cost trc td rd l (row_gaps d n trc td l r).0 in
      let b = most (count (in_span s x) (free d n l)) (count (in_span s x) (delayed d n l)) (n * k) (x - 1) trc td (omega arith) rd (few_free l) c room in
      omega (arith, split_count (in_span s x) d n l)

  pub row_span_short : 1 ≤ trc → (l : List ℕ) → Row d n trc td l → count (in_span s x) l ≤ 1 + (x - 1) / trc
  row_span_short r1 l r =
      let c = span_cost trc trc (omega arith) l (row_gaps d n trc td l r).1 in
      let b = most_equal (count (in_span s x) (free d n l)) (count (in_span s x) (delayed d n l)) (x - 1) trc r1 c in
      omega (arith, split_count (in_span s x) d n l)
