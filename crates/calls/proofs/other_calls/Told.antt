-- What `lent::setup` tells: how many counters are cleared, none where it refuses, and the number that the caller gets.
use mathlib.Core.Path.{◌≡◌, refl, sym, ap}
use mathlib.Core.List.{List}
use Prim.Native.Nat.{ℕ, ◌≤◌}
use native.Mathlib.Omega.{arith}
use lib.Dec.{ltb, ltb→lt}
use Rattle.std.specs.Result.{result_unwrap_or, result_and}
use Rattle.std.specs.Prelude.{Result, Ok, Err, IfOk}
use Rattle.refused.specs.declared.Refusal.{Refusal}
use Rattle.refused.specs.Numbers.{code_of}
use Rattle.rules.specs.Cells.{clear_cells}
use Rattle.rules.proofs.Clearing.{clear_none}
use Rattle.lent.specs.Filters.{cleared_by}

-- d is what is taken for the number where the call is refused
pub told_room : (told : Result ℕ Refusal) (d used n : ℕ) → used ≡ result_unwrap_or told d → IfOk told (λ u. u ≤ n) → d ≤ n → used ≤ n
told_room (Ok u) d used n is room least = omega (arith, is, room)
told_room (Err r) d used n is room least = omega (arith, is, least)

pub told_cleared : (told : Result ℕ Refusal) (d used : ℕ) → used ≡ result_unwrap_or told d → d ≡ 0
    → (cs : List ℕ) → clear_cells (λ i. ltb i used) cs ≡ cleared_by told cs
told_cleared (Ok u) d used is none cs = ap (λ n. clear_cells (λ i. ltb i n) cs) is
told_cleared (Err r) d used is none cs = sym (clear_none (λ i. ltb i used) (λ i t. omega (arith, is, none, ltb→lt i used t)) cs)

pub told_code : (told : Result ℕ Refusal) → code_of (result_and told (Ok (tt {0}))) ≡ code_of told
told_code (Ok u) = refl
told_code (Err r) = refl
