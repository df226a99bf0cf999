-- The delays of a setting: which of them are accepted, and what an answer about them says, for the limits m of a width and the profile that the
-- setting names. The setting's own delay and the seeds play no part.
use Rattle.std.specs.Prelude.{◌≡◌, ◌≢◌, List, ℕ, ◌^◌, ◌≤◌, ◌<◌, replicate, Result, Ok, Err}
use Rattle.rules.specs.declared.Setting.{Setting}
use Rattle.rules.specs.declared.Limits.{Limits}
use Rattle.rules.specs.Answers.{Refusal, none, out_of_range, short_window, above_profile, refusal_number}
use Rattle.rules.specs.Setting.{row_bound, setting_refusal}
use Rattle.refused.specs.declared.Refusal as refused
use Rattle.refused.specs.Numbers.{number_of}
use Rattle.plan_rules.specs.declared.delays.Delays.{Delays}

-- the setting with another delay tD
abbrev pub with_delay : Setting → ℕ → Setting
with_delay s td =
    record { w = s.w; trc = s.trc; tfaw = s.tfaw; n = s.n; td = td; l = s.l; q = s.q; banks = s.banks; threads = s.threads; profile = s.profile }

-- the setting with another threshold N
abbrev pub with_threshold : Setting → ℕ → Setting
with_threshold s n =
    record { w = s.w; trc = s.trc; tfaw = s.tfaw; n = n; td = s.td; l = s.l; q = s.q; banks = s.banks; threads = s.threads; profile = s.profile }

-- the setting with another limit L
abbrev pub with_limit : Setting → ℕ → Setting
with_limit s l =
    record { w = s.w; trc = s.trc; tfaw = s.tfaw; n = s.n; td = s.td; l = l; q = s.q; banks = s.banks; threads = s.threads; profile = s.profile }

-- Seeds in range, so that none of the setting's refusals is theirs. Any others in range give the same refusals (`SeedsPlayNoPart`).
abbrev pub some_seeds : List ℕ
some_seeds = replicate 64 0

-- the refusal that the setting gets with delay td
unfoldable pub delay_refusal : Limits → Setting → ℕ → Refusal
delay_refusal m s td = setting_refusal m (with_delay s td) some_seeds

-- the setting is accepted with delay td
abbrev pub AcceptedDelay : Limits → Setting → ℕ → Type 0
AcceptedDelay m s td = delay_refusal m s td ≡ none

-- "tD 1 to 2^29"
abbrev pub InRange : ℕ → Type 0
InRange td = (1 ≤ td) × (td ≤ 2 ^ 29)

-- B ≤ L with delay td
abbrev pub Bounded : Setting → ℕ → Type 0
Bounded s td = row_bound (with_delay s td) ≤ s.l

-- the accepted delays are those from least to greatest
pub record Ends (m : Limits) (s : Setting) (least greatest : ℕ) : Type 0 where
  pub ordered : least ≤ greatest
  pub least_accepted : AcceptedDelay m s least
  pub greatest_accepted : AcceptedDelay m s greatest
  pub between : (td : ℕ) → least ≤ td → td ≤ greatest → AcceptedDelay m s td
  pub below : (td : ℕ) → td < least → delay_refusal m s td ≢ none
  pub above : (td : ℕ) → greatest < td → delay_refusal m s td ≢ none

-- d is the smallest delay in range with B ≤ L
pub record Smallest (s : Setting) (d : ℕ) : Type 0 where
  pub in_range : InRange d
  pub bounded : Bounded s d
  pub first : (td : ℕ) → 1 ≤ td → td < d → s.l < row_bound (with_delay s td)

-- Which refusal is given where no delay is accepted.
pub data Reason (m : Limits) (s : Setting) (number : ℕ) : Type 0 where
  -- the one that every delay in range gets
  every_delay : (r : Refusal) → number ≡ refusal_number r → ((td : ℕ) → InRange td → delay_refusal m s td ≡ r) → Reason m s number
  -- 16 where only the profile excludes every delay: some delay gets 16, the last of the setting's refusals, and so meets no other
  only_profile : (td : ℕ) → number ≡ 16 → delay_refusal m s td ≡ above_profile → Reason m s number
  -- the one that the smallest delay with B ≤ L gets, where no delay gets 16
  smallest_delay : (d : ℕ) → Smallest s d → ((td : ℕ) → delay_refusal m s td ≢ above_profile) → number ≡ refusal_number (delay_refusal m s d) → Reason m s number
  -- 5 where every delay in range has B > L, and none of them is refused with 1 or 2
  no_delay : number ≡ 5 → ((td : ℕ) → InRange td → (s.l < row_bound (with_delay s td)) × (delay_refusal m s td ≢ out_of_range) × (delay_refusal m s td ≢ short_window)) → Reason m s number

-- An answer: the accepted delays, or the refusal where there are none.
abbrev pub Plan : Type 0
Plan = Result Delays refused.Refusal

abbrev pub from_to : ℕ → ℕ → Plan
from_to a b = Ok (record { least = a; greatest = b })

-- what an answer says of the setting
abbrev pub Says : Limits → Setting → Plan → Type 0
Says m s (Ok delays) = Ends m s delays.least delays.greatest
Says m s (Err why) = ((td : ℕ) → delay_refusal m s td ≢ none) × Reason m s (number_of why)
