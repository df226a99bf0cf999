-- Epochs by number.
use Prim.Native.Nat.{ℕ, ◌+◌, ◌-◌, ◌*◌, ◌/◌, ◌^◌, ◌≤◌, ◌<◌}
use mathlib.Core.Path.{◌≡◌}
use native.Mathlib.Omega.{arith}
use native.Mathlib.Nat.{div-lt_iff_lt-mul, le-div_iff_mul-le}

-- the number of an epoch of two ticks or more
pub epoch_small : (x d : ℕ) → 2 ≤ d → x < 2 ^ 64 → x / d < 2 ^ 63
epoch_small x d h k = (div-lt_iff_lt-mul {k = d} {x = x} {y = 2 ^ 63} (omega arith)).1 (omega arith)

-- the epoch of a tick by the start of an earlier one
pub same_epoch : (tick e d : ℕ) → 1 ≤ d → e * d ≤ tick → tick - e * d < d → e ≡ tick / d
same_epoch tick e d h lo hi =
    let k : tick < (e + 1) * d = omega arith in
    omega (arith, (le-div_iff_mul-le {k = d} {x = e} {y = tick} h).1 lo, (div-lt_iff_lt-mul {k = d} {x = tick} {y = e + 1} h).1 k)
