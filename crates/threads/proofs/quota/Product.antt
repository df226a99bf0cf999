-- The quota from what is left of the full scale.
use mathlib.Core.Path.{◌≡◌}
use Prim.Native.Nat.{ℕ, ◌-◌, ◌*◌, min}
use native.Mathlib.Omega.{arith}
use Rattle.rules.specs.declared.Setting.{Setting}
use Rattle.rules.specs.Setting.{index_scale}
use Rattle.rules.specs.Quota.{half_even, quota_even}

-- with what is left of the full scale
pub quota_is : (s : Setting) (c left : ℕ) → left ≡ index_scale s - c → half_even (s.q * left) (index_scale s) ≡ quota_even s c
unfolding quota_even
quota_is s c left e =
    let z : left ≡ index_scale s - min c (index_scale s) = omega arith in
    rw z
