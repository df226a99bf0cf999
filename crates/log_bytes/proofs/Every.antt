-- A test of each number below n, as a chain of iterators makes it.
use mathlib.Core.Path.{◌≡◌, refl, ap, ◌∙◌}
use mathlib.Core.List.{List, [], ◌∷◌, ◌++◌}
use mathlib.Core.Bool.{Bool, ◌&&◌}
use Prim.Native.Nat.{ℕ, zero, suc, ◌+◌, ◌≤◌}
use native.Mathlib.Omega.{arith}
use native.Mathlib.Numerals.{add-one}
use lib.ListN.{length, get_or, take}
use Rattle.std.specs.List.{list_all, range_with_len}
use Rattle.std.proofs.lemmas.List.{take_more}
use Rattle.std.proofs.lemmas.List.Folds.{list_all-append}
use Rattle.rules.specs.Cells.{every}
use Rattle.rules.proofs.Tests.{and_true}

range_more : (a n : ℕ) → range_with_len a (suc n) ≡ range_with_len a n ++ (a + n) ∷ []
range_more a zero = let e : a ≡ a + 0 = omega arith in ap (λ (k : ℕ). k ∷ []) e
range_more a (suc n) =
    let e : a + 1 + n ≡ a + suc n = omega arith in
    ap (λ (ks : List ℕ). a ∷ ks) (range_more (a + 1) n ∙ ap (λ (k : ℕ). range_with_len (a + 1) n ++ k ∷ []) e)

-- one element more
all_more : {A : Type 0} (p : A → Bool) (xs : List A) (x : A) → list_all p (xs ++ x ∷ []) ≡ (list_all p xs && p x)
all_more p xs x = list_all-append p xs (x ∷ []) ∙ ap (λ (t : Bool). list_all p xs && t) (and_true (p x))

-- the numbers below n
pub every_range : (p : ℕ → Bool) (n : ℕ) → list_all p (range_with_len 0 n) ≡ every n p
every_range p zero = refl
every_range p (suc n) =
    let e : 0 + n ≡ n = omega arith in
    ap (λ (ks : List ℕ). list_all p ks) (range_more 0 n)
    ∙ rw e (all_more p (range_with_len 0 n) n ∙ ap (λ (t : Bool). t && p n) (every_range p n))

-- the first n elements of a list
pub every_take : (p : ℕ → Bool) (xs : List ℕ) (n : ℕ) → n ≤ length xs → list_all p (take n xs) ≡ every n (λ i. p (get_or xs i 0))
every_take p xs zero h = refl
every_take p xs (suc n) h =
    let e : take (n + 1) xs ≡ take n xs ++ get_or xs n 0 ∷ [] = take_more xs n 0 (omega arith) in
    rw (← add-one n, e, all_more p (take n xs) (get_or xs n 0)) (ap (λ (t : Bool). t && p (get_or xs n 0)) (every_take p xs n (omega arith)))
