-- `weight`: the product is at most 508 × 255.
use Prim.Native.Nat.{◌+◌, ◌*◌, ◌≤◌}
use mathlib.Core.Path.{refl}
use native.Mathlib.Omega.{arith}
use native.Mathlib.Nat.{mul-le-mul}
use Rattle.log_bytes.proofs.sums.weight.Goals as goal

pub overflow_mul-result : goal.overflow_mul-result
overflow_mul-result c =
    let small : (c.args.place + 1) * c.args.byte ≤ 129540 = mul-le-mul {n₂ = 508} {m₂ = 255} (omega arith) (omega arith) in
    omega (arith, small)

pub returns : goal.returns
returns c =
    let small : (c.args.place + 1) * c.args.byte ≤ 129540 = mul-le-mul {n₂ = 508} {m₂ = 255} (omega arith) (omega arith) in
    (refl, small)
