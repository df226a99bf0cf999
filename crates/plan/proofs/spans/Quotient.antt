-- A quotient rounded up: the library's, and that of the rules.
use mathlib.Core.Path.{◌≡◌}
use Prim.Native.Nat.{ℕ, ◌+◌, ◌-◌, ◌*◌, ◌/◌, ◌≤◌, ◌<◌}
use native.Mathlib.Omega.{arith}
use native.Mathlib.Nat.{add-mul, one-mul, div-lt_iff_lt-mul, le-div_iff_mul-le}
use Rattle.std.specs.Int.{div_ceil}
use Rattle.std.proofs.lemmas.Grind.{div_ceil_times}
use Rattle.rules.specs.Cells.{ceil_div}

pub same : (a b : ℕ) → 1 ≤ b → div_ceil a b ≡ ceil_div a b
same a b h =
    let q = div_ceil a b in
    let times = div_ceil_times a b h in
    let next : (q + 1) * b ≡ q * b + b = rw (add-mul q 1 b, one-mul b) in
    let low : q ≤ (a + (b - 1)) / b = (le-div_iff_mul-le {k = b} {x = q} {y = a + (b - 1)} h).1 (omega arith) in
    let high : (a + (b - 1)) / b < q + 1 = (div-lt_iff_lt-mul {k = b} {x = a + (b - 1)} {y = q + 1} h).1 (omega arith) in
    omega arith
