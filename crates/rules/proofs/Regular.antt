-- The rules in force: the quota rounds as document 02, d, says, is at most 255, and is Q while the index counter is 0; in flight is the
-- thread's total over the banks, and never fewer than the named bank's own.
use mathlib.Core.Path.{◌≡◌, refl}
use mathlib.Core.List.{List}
use Prim.Native.Nat.{ℕ, ◌-◌, ◌*◌, ◌≤◌, min}
use native.Mathlib.Omega.{arith}
use native.Mathlib.Nat.{mul-le-mul_left}
use Rattle.rules.specs.declared.Setting.{Setting}
use Rattle.rules.specs.declared.Limits.{Limits}
use Rattle.rules.specs.Setting.{index_scale}
use Rattle.rules.specs.Quota.{quota_even, in_flight_total}
use Rattle.rules.specs.Policy.{in_force}
use Rattle.rules.specs.Tested.{Accepted}
use Rattle.rules.specs.Claims.{QuotaRounds, SumsBanks, UsedFlying}
use Rattle.rules.proofs.Sums.{total_used}
use Rattle.rules.proofs.Accept.{scale_pos}
use Rattle.rules.proofs.Rounding.{rounds_near, rounds_most, rounds_whole}

-- the quota is at most Q
pub quota_most : (s : Setting) (c : ℕ) → 1 ≤ index_scale s → quota_even s c ≤ s.q
unfolding quota_even
quota_most s c pos =
    let h : index_scale s - min c (index_scale s) ≤ index_scale s = omega arith in
    rounds_most (s.q * (index_scale s - min c (index_scale s))) (index_scale s) s.q pos (mul-le-mul_left s.q h)

-- and it is Q while the index counter is 0
pub quota_full : (s : Setting) → 1 ≤ index_scale s → quota_even s 0 ≡ s.q
unfolding quota_even
quota_full s pos = let h : index_scale s - min 0 (index_scale s) ≡ index_scale s = omega arith in rw h (rounds_whole (index_scale s) s.q pos)

-- an accepted setting's full scale is not 0
pub scaled : {m : Limits} {s : Setting} {seeds : List ℕ} → Accepted m s seeds → 1 ≤ index_scale s
scaled {s = s} ok = omega (arith, scale_pos ok)

pub in_force_rounds : (m : Limits) → QuotaRounds (in_force m)
unfolding quota_even
in_force_rounds m s seeds ok c = rounds_near (s.q * (index_scale s - min c (index_scale s))) (index_scale s) (scaled ok)

pub in_force_used_flying : (m : Limits) → UsedFlying (in_force m)
in_force_used_flying m s threads other bank thread bh th same = total_used s threads bank thread other th same

pub in_force_sums : (m : Limits) → SumsBanks (in_force m)
unfolding in_flight_total
in_force_sums m s threads bank thread = refl
