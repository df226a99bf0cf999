-- What is proved about the delays of a setting, for the limits m of every width and the profile that the setting names: the statements, as types.
-- Their proofs are in proofs/.
use Rattle.std.specs.Prelude.{◌≡◌, ◌≢◌, List, ℕ, ◌-◌, ◌*◌, ◌^◌, ◌≤◌, ◌<◌, T, Err}
use Rattle.rules.specs.declared.Setting.{Setting}
use Rattle.rules.specs.declared.Limits.{Limits}
use Rattle.rules.specs.Answers.{none}
use Rattle.rules.specs.Setting.{with_mark, known, history_length, row_bound, seeds_in_range, setting_refusal}
use Rattle.refused.specs.declared.Refusal.{Refusal}
use Rattle.refused.specs.declared.Refusal.TheVariants.{AboveProfile}
use Rattle.plan_rules.specs.delays.Delays.{Plan, from_to, with_delay, with_threshold, with_limit, delay_refusal, AcceptedDelay, Says}
use Rattle.plan_rules.specs.delays.Answer.{smallest_delay, delays_of}

-- The answer is right for all limits and every setting: both ends are accepted, every delay between them is, none outside them is;
-- or none is, and the refusal is the one that `Reason` describes.
abbrev pub Right : Type 0
Right = (m : Limits) (s : Setting) → Says m s (delays_of m s)

-- No other answer is, where the limits allow a history at all: H is 4 or more. (Else every delay can be refused with 4 and have B > L too.)
abbrev pub OnlyOne : Type 0
OnlyOne = (m : Limits) (s : Setting) (a b : Plan) → 4 ≤ m.history → Says m s a → Says m s b → a ≡ b

-- The refusal of a delay is the same for all seeds in range ..
abbrev pub SeedsPlayNoPart : Type 0
SeedsPlayNoPart =
    (m : Limits) (s : Setting) (td : ℕ) (seeds : List ℕ) → T (seeds_in_range seeds) → setting_refusal m (with_delay s td) seeds ≡ delay_refusal m s td

-- .. and the answer does not depend on the delay that stands in the setting.
abbrev pub DelayPlaysNoPart : Type 0
DelayPlaysNoPart = (m : Limits) (s : Setting) (td : ℕ) → delays_of m (with_delay s td) ≡ delays_of m s

-- A longer delay never raises B and never shortens the history.
abbrev pub LongerDelay : Type 0
LongerDelay =
    (s : Setting) (a b : ℕ) → 1 ≤ a → a ≤ b → 1 ≤ s.tfaw
    → (row_bound (with_delay s b) ≤ row_bound (with_delay s a)) × (history_length (with_delay s a) ≤ history_length (with_delay s b))

-- ---- profiles

-- The answer 16 is given where only the profile excludes every delay: the large profile accepts one, and the setting's own accepts none. Where the
-- large profile accepts none either, the answer is the large profile's.
pub record ByProfile (m : Limits) (s : Setting) : Type 0 where
  pub only : delays_of m s ≡ Err AboveProfile → ((a : ℕ) × (b : ℕ) × (delays_of m (with_mark 0 s) ≡ from_to a b)) × ((td : ℕ) → delay_refusal m s td ≢ none)
  pub excluded : (a b : ℕ) → delays_of m (with_mark 0 s) ≡ from_to a b → ((td : ℕ) → delay_refusal m s td ≢ none) → delays_of m s ≡ Err AboveProfile
  pub as_large : (why : Refusal) → delays_of m (with_mark 0 s) ≡ Err why → delays_of m s ≡ Err why

-- of every setting with the mark of a profile, where the limits allow a history at all
abbrev pub Sixteen : Type 0
Sixteen = (m : Limits) (s : Setting) → 4 ≤ m.history → T (known s.profile) → ByProfile m s

-- ---- the trade between N and tD

-- A delay that is accepted with a threshold is accepted with every smaller one.
abbrev pub Nested : Type 0
Nested =
    (m : Limits) (s : Setting) (n more td : ℕ) → 1 ≤ n → n ≤ more → AcceptedDelay m (with_threshold s more) td → AcceptedDelay m (with_threshold s n) td

-- So the least delay never falls as N grows, whatever the setting, and the greatest stays. The thresholds that have a delay are those up to a last one.
abbrev pub Grows : Type 0
Grows =
    (m : Limits) (s : Setting) (n more a b c d : ℕ) → n ≤ more
    → delays_of m (with_threshold s n) ≡ from_to a b
    → delays_of m (with_threshold s more) ≡ from_to c d
    → (a ≤ c) × (b ≡ d)

abbrev pub UpToLast : Type 0
UpToLast =
    (m : Limits) (s : Setting) (n more : ℕ) (why : Refusal) → 1 ≤ n → n ≤ more
    → delays_of m (with_threshold s n) ≡ Err why → (c d : ℕ) → delays_of m (with_threshold s more) ≡ from_to c d → ⊥

-- A delay that is accepted with a limit L is accepted with every larger one of the table's range: what has no delay with L has none with a smaller L.
abbrev pub LargerLimit : Type 0
LargerLimit =
    (m : Limits) (s : Setting) (l more td : ℕ) → l ≤ more → more ≤ 2 ^ 24 → AcceptedDelay m (with_limit s l) td → AcceptedDelay m (with_limit s more) td

-- At limits that are no smaller, as those of the wider counters, a setting that has delays has the same least one, and its greatest is no smaller.
abbrev pub WiderLimits : Type 0
WiderLimits =
    (m more : Limits) (s : Setting) (a b : ℕ) → m.threshold ≤ more.threshold → m.history ≤ more.history
    → delays_of m s ≡ from_to a b → (c : ℕ) × (b ≤ c) × (delays_of more s ≡ from_to a c)

-- Where L + 1 activations, each tRC after the one before, do not fit in W ticks, the least delay is tRC for every threshold: it does not grow.
abbrev pub Flat : Type 0
Flat = (m : Limits) (s : Setting) (a b : ℕ) → s.w - 1 < s.trc * s.l → delays_of m s ≡ from_to a b → a ≡ s.trc

-- Where they fit, refusal 5 decides the least delay: it is the smallest delay with B ≤ L.
abbrev pub Decided : Type 0
Decided = (m : Limits) (s : Setting) (a b : ℕ) → s.trc * s.l ≤ s.w - 1 → delays_of m s ≡ from_to a b → a ≡ smallest_delay s

pub record Theorems : Type 0 where
  pub right : Right
  pub only_one : OnlyOne
  pub seeds_play_no_part : SeedsPlayNoPart
  pub delay_plays_no_part : DelayPlaysNoPart
  pub longer_delay : LongerDelay
  pub sixteen : Sixteen
  pub nested : Nested
  pub grows : Grows
  pub up_to_last : UpToLast
  pub larger_limit : LargerLimit
  pub wider_limits : WiderLimits
  pub flat : Flat
  pub decided : Decided
