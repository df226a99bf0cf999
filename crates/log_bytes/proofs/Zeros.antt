-- The tests of a block's layout, test by test, as the code computes them.
use mathlib.Core.Path.{◌≡◌, refl, sym, ap, ◌∙◌}
use mathlib.Core.List.{List, [], ◌∷◌, ◌++◌}
use mathlib.Core.Bool.{Bool, ◌&&◌}
use Prim.Native.Nat.{ℕ, zero, suc, ◌+◌, ◌≤◌, ◌<◌}
use native.Mathlib.Omega.{arith}
use native.Mathlib.Numerals.{add-one}
use lib.Bits.{bit_or}
use lib.Dec.{eqb}
use lib.ListN.{length, get_or, take, drop}
use Rattle.std.specs.List.{fold}
use Rattle.std.proofs.lemmas.Nat.{le_or_l}
use Rattle.std.proofs.lemmas.Bool.{ne_eqb}
use Rattle.std.proofs.lemmas.List.{get_or-drop, length-drop, take_more}
use Rattle.std.proofs.lemmas.List.Sums.{fold-append}
use Rattle.rules.specs.Cells.{every}

-- no bit of two numbers is set exactly where both are zero
or_zero : (e x : ℕ) → eqb (bit_or e x) 0 ≡ (eqb e 0 && eqb x 0)
or_zero zero x = refl
or_zero (suc e) x =
    let l : suc e ≤ bit_or (suc e) x = le_or_l (suc e) x in
    ne_eqb (bit_or (suc e) x) 0 (λ z. omega arith) ∙ ap (λ (t : Bool). t && eqb x 0) (sym (ne_eqb (suc e) 0 (λ z. omega arith)))

-- no bit of the n bytes from a place on is set exactly where each is zero
pub zeros_fold : (s : List ℕ) (from n : ℕ) → from + n ≤ length s
    → eqb (fold (λ a b. bit_or a b) 0 (take n (drop from s))) 0 ≡ every n (λ j. eqb (get_or s (from + j) 0) 0)
zeros_fold s from zero h = refl
zeros_fold s from (suc n) h =
    let l : n < length (drop from s) = omega (arith, length-drop from s) in
    let e : take (n + 1) (drop from s) ≡ take n (drop from s) ++ get_or (drop from s) n 0 ∷ [] = take_more (drop from s) n 0 l in
    rw (← add-one n, e, fold-append (λ a b. bit_or a b) 0 (take n (drop from s)) (get_or (drop from s) n 0 ∷ []), get_or-drop from s n 0)
    (or_zero (fold (λ a b. bit_or a b) 0 (take n (drop from s))) (get_or s (from + n) 0)
    ∙ ap (λ (t : Bool). t && eqb (get_or s (from + n) 0) 0) (zeros_fold s from n (omega arith)))
