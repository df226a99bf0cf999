-- The answer in closed form, for the limits m of a width and the profile that the setting names. `Claims` says what it means.
use Rattle.std.specs.Prelude.{◌&&◌, cond, ℕ, ◌+◌, ◌-◌, ◌*◌, ◌/◌, ◌^◌, min, max, leb, ltb, eqb, Err}
use Rattle.std.specs.Result.{result_and}
use Rattle.rules.specs.declared.Setting.{Setting}
use Rattle.rules.specs.declared.Limits.{Limits}
use Rattle.rules.specs.Answers.{refusal_number}
use Rattle.rules.specs.Setting.{epoch_length, profile_of}
use Rattle.refused.specs.declared.Refusal.TheVariants.{OutOfRange, ShortWindow, AboveLimit, AboveProfile}
use Rattle.refused.specs.Passed.{passed}
use Rattle.plan_rules.specs.delays.Delays.{Plan, from_to, delay_refusal}

-- The smallest delay with B ≤ L, where 2N < L: B > L is the same as (L - 2N) × tD ≤ W - 1 - 2 × N × tRC.
unfoldable pub smallest_delay : Setting → ℕ
smallest_delay s = (s.w - 1 - 2 * s.n * s.trc) / (s.l - 2 * s.n) + 1

-- not below tRC either
unfoldable pub least_delay : Setting → ℕ
least_delay s = max s.trc (smallest_delay s)

-- not above the epoch, and H = 4 × ceil(tD/tFAW) at most the greatest H: 1,024 × tFAW where that is 4,096
unfoldable pub greatest_delay : Limits → Setting → ℕ
greatest_delay m s = min (epoch_length s) (m.history / 4 * s.tfaw)

-- H at most the greatest H of the profile too: 256 × tFAW where that is 1,024
unfoldable pub own_greatest : Limits → Setting → ℕ
own_greatest m s = min (greatest_delay m s) ((profile_of s.profile).history / 4 * s.tfaw)

-- where the large profile accepts a delay: those that the setting's own profile accepts
unfoldable pub delays_within : Limits → Setting → Plan
delays_within m s =
    cond (leb s.banks (profile_of s.profile).banks && leb (least_delay s) (own_greatest m s)) (from_to (least_delay s) (own_greatest m s)) (Err AboveProfile)

-- Where the fields other than the delay are in range, two bursts fit in the window, and 2N < L. The smallest delay is refused where the least is above
-- the greatest.
unfoldable pub delays_above : Limits → Setting → Plan
delays_above m s =
    cond (leb (least_delay s) (greatest_delay m s)) (delays_within m s)
    (cond (ltb (2 ^ 29) (smallest_delay s)) (Err AboveLimit) (result_and (passed (delay_refusal m s (smallest_delay s))) (Err AboveLimit)))

-- Refusals 1 and 2 do not depend on the delay, as long as that is in range.
unfoldable pub delays_of : Limits → Setting → Plan
delays_of m s =
    cond (eqb (refusal_number (delay_refusal m s 1)) 1) (Err OutOfRange)
    (cond (eqb (refusal_number (delay_refusal m s 1)) 2) (Err ShortWindow)
    (cond (leb s.l (2 * s.n)) (Err AboveLimit) (delays_above m s)))
