-- A run of steps that commute, one for each number of a list, depends on how often each number stands in the list and not on the order.
use mathlib.Core.Path.{◌≡◌, refl, sym, ap, ◌∙◌}
use mathlib.Core.List.{List, [], ◌∷◌, ◌++◌}
use mathlib.Core.Bool.{Bool, true, false}
use Prim.Native.Nat.{ℕ, suc, ◌+◌, ◌≤◌}
use native.Mathlib.Omega.{arith}
use lib.Dec.{eqb, eqb→eq}
use borrow.Author.Tests.{eq-eqb}
use Rattle.rules.specs.Cells.{more, count}
use Rattle.rules.proofs.Tests.{holds}
use Rattle.rules.proofs.Counting.{count_append}

-- ---- how often a number stands in a list

abbrev pub times : ℕ → List ℕ → ℕ
times a l = count (λ x. eqb x a) l

times_self : (a : ℕ) (l : List ℕ) → times a (a ∷ l) ≡ suc (times a l)
times_self a l = ap (λ b. more b (times a l)) (eq-eqb a a refl)

-- the list has the number between two parts
abbrev Split : ℕ → List ℕ → Type 0
Split a l = (xs : List ℕ) × (ys : List ℕ) × (l ≡ xs ++ a ∷ ys)

split_later : (a x : ℕ) (l : List ℕ) → Split a l → Split a (x ∷ l)
split_later a x l (xs, ys, e) = (x ∷ xs, ys, ap (λ k. x ∷ k) e)

split_at : (a : ℕ) (l : List ℕ) → 1 ≤ times a l → Split a l
split_at a [] h = absurd (omega arith)
split_at a (x ∷ l) h = go (eqb x a) refl h (split_at a l)
  where
    go : (b : Bool) → eqb x a ≡ b → 1 ≤ more b (times a l) → (1 ≤ times a l → Split a l) → Split a (x ∷ l)
    go true e k rest = ([], l, ap (λ z. z ∷ l) (eqb→eq x a (holds (eqb x a) e)))
    go false e k rest = split_later a x l (rest k)

-- without the number each number stands as often in both, if it did so before
times_out : (b a : ℕ) (l xs ys : List ℕ) → times b (a ∷ l) ≡ times b (xs ++ a ∷ ys) → times b l ≡ times b (xs ++ ys)
times_out b a l xs ys e = go (eqb a b) (e ∙ count_append (λ x. eqb x b) xs (a ∷ ys))
  where
    go : (q : Bool) → more q (times b l) ≡ times b xs + more q (times b ys) → times b l ≡ times b (xs ++ ys)
    go true k = omega (arith, count_append (λ x. eqb x b) xs ys)
    go false k = omega (arith, count_append (λ x. eqb x b) xs ys)

-- ---- the steps

module _ {S : Type 0} (step : ℕ → S → S) (swap : (a b : ℕ) (s : S) → step a (step b s) ≡ step b (step a s)) where
  abbrev pub steps : List ℕ → S → S
  steps [] s = s
  steps (a ∷ l) s = steps l (step a s)

  -- a step may be made first
  steps_first : (xs : List ℕ) (a : ℕ) (ys : List ℕ) (s : S) → steps (xs ++ a ∷ ys) s ≡ steps (xs ++ ys) (step a s)
  steps_first [] a ys s = refl
  steps_first (x ∷ xs) a ys s = steps_first xs a ys (step x s) ∙ ap (steps (xs ++ ys)) (swap a x s)

  pub steps_same : (l m : List ℕ) → ((a : ℕ) → times a l ≡ times a m) → (s : S) → steps l s ≡ steps m s
  steps_same [] [] h s = refl
  steps_same [] (x ∷ m) h s = absurd (omega (arith, h x, times_self x m))
  steps_same (a ∷ l) m h s = go (split_at a m (omega (arith, h a, times_self a l))) (steps_same l)
    where
      go : Split a m → ((k : List ℕ) → ((b : ℕ) → times b l ≡ times b k) → (s : S) → steps l s ≡ steps k s) → steps (a ∷ l) s ≡ steps m s
      go (xs, ys, e) rest =
          rest (xs ++ ys) (λ b. times_out b a l xs ys (h b ∙ ap (times b) e)) (step a s)
          ∙ sym (steps_first xs a ys s) ∙ ap (λ k. steps k s) (sym e)
