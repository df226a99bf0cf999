-- The rules in force are regular: the quota is at most 255, and is Q while the index counter is 0; none is in flight on cleared cells, and never fewer than the
-- named bank's own.
use native.Mathlib.Omega.{arith}
use Rattle.rules.specs.declared.Limits.{Limits}
use Rattle.rules.specs.Policy.{in_force}
use Rattle.rules.proofs.Sums.{total_none, total_own}
use Rattle.rules.proofs.Regular.{quota_most, quota_full, scaled}
use Rattle.assurances.specs.Claims.{Regular}

pub in_force_regular : (m : Limits) → Regular (in_force m)
in_force_regular m =
    record {
      quota_most = λ s seeds ok c. omega (arith, quota_most s c (scaled ok), ok.ranges.q_high);
      quota_first = λ s seeds ok. omega (arith, quota_full s (scaled ok), ok.ranges.q_low);
      none_flying = λ s threads bank thread bh th z. total_none s threads bank thread th z;
      own_flying = λ s threads bank thread bh th. total_own s threads bank thread bh;
    }
