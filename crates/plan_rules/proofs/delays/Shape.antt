-- The refusal of a delay in range: refusals 1 and 2 do not depend on it, and the seeds play no part.
use mathlib.Core.Path.{◌≡◌, refl, sym, ap, ◌∙◌}
use mathlib.Core.Logic.{◌≢◌}
use mathlib.Core.Bool.{Bool, true, false, not, ◌&&◌, ◌||◌}
use Prim.Native.Nat.{ℕ, ◌-◌, ◌*◌, ◌^◌, ◌≤◌}
use native.Mathlib.Omega.{arith}
use lib.Dec.{ltb}
use borrow.Author.Tests.{le-leb, le-ltb, ltb-false}
use Rattle.rules.specs.declared.Setting.{Setting}
use Rattle.rules.specs.declared.Limits.{Limits}
use Rattle.rules.specs.Answers.{Refusal, none, out_of_range, short_window, bad_delay, long_history, above_limit, above_profile, refusal_number, refuse}
use Rattle.rules.specs.Setting.{epoch_length, history_length, row_bound, profile_of, exceeds, fields_in_range, seeds_in_range, setting_refusal}
use Rattle.rules.proofs.Tests.{is_true, and_l, not_not}
use Rattle.rules.proofs.Accept.{ranges, refuse_none}
use Rattle.rules.specs.Tested.{Ranges}
use Rattle.plan_rules.specs.delays.Delays.{with_delay, with_threshold, with_limit, some_seeds, delay_refusal, InRange}
use Rattle.plan_rules.specs.delays.Claims.{SeedsPlayNoPart}

-- ---- the parts of the refusal

-- the fields other than the delay are in range
abbrev pub others : Limits → Setting → Bool
others m s = fields_in_range m (with_delay s 1)

-- refusal 2: two bursts do not fit in the window
abbrev pub crowded : Setting → Bool
crowded s = ltb (s.w - 1) (2 * s.n * s.trc)

-- refusal 16, by the history of a delay
abbrev pub exceeds_own : Setting → ℕ → Bool
exceeds_own s td = exceeds (profile_of s.profile) s.banks (history_length (with_delay s td))

-- refusals 3 to 5 and 16
abbrev pub late : Bool → Bool → Bool → Bool → Refusal
late a b c d = refuse a bad_delay (refuse b long_history (refuse c above_limit (refuse d above_profile none)))

abbrev pub late_of : Limits → Setting → ℕ → Refusal
late_of m s td =
    late (ltb td s.trc || ltb (epoch_length s) td) (ltb m.history (history_length (with_delay s td))) (ltb s.l (row_bound (with_delay s td))) (exceeds_own s td)

seeds_ok : seeds_in_range some_seeds ≡ true
unfolding seeds_in_range
seeds_ok = refl

pub any_delay : (m : Limits) (s : Setting) (td : ℕ) → InRange td → fields_in_range m (with_delay s td) ≡ others m s
unfolding fields_in_range
any_delay m s td h = simp (le-leb 1 td h.0, le-leb td 536870912 h.1)

pub any_threshold : (m : Limits) (s : Setting) (n more td : ℕ) → 1 ≤ n → n ≤ more → more ≤ m.threshold
    → fields_in_range m (with_delay (with_threshold s n) td) ≡ fields_in_range m (with_delay (with_threshold s more) td)
unfolding fields_in_range
any_threshold m s n more td h k j =
    let one : 1 ≤ more = omega arith in
    let top : n ≤ m.threshold = omega arith in
    simp (le-leb 1 n h, le-leb n m.threshold top, le-leb 1 more one, le-leb more m.threshold j)

pub any_limit : (m : Limits) (s : Setting) (l more td : ℕ) → 1 ≤ l → l ≤ more → more ≤ 2 ^ 24
    → fields_in_range m (with_delay (with_limit s more) td) ≡ fields_in_range m (with_delay (with_limit s l) td)
unfolding fields_in_range
any_limit m s l more td h k j =
    let one : 1 ≤ more = omega arith in
    let top : l ≤ 2 ^ 24 = omega arith in
    simp (le-leb 1 l h, le-leb l 16777216 top, le-leb 1 more one, le-leb more 16777216 j)

pub any_width : (m more : Limits) (s : Setting) → 1 ≤ s.n → s.n ≤ m.threshold → m.threshold ≤ more.threshold → fields_in_range more s ≡ fields_in_range m s
unfolding fields_in_range
any_width m more s h k j =
    let top : s.n ≤ more.threshold = omega arith in
    simp (le-leb 1 s.n h, le-leb s.n m.threshold k, le-leb s.n more.threshold top)

pub shape : (m : Limits) (s : Setting) (td : ℕ) → InRange td → delay_refusal m s td ≡ refuse (not (others m s)) out_of_range (refuse (crowded s) short_window (late_of m s td))
unfolding delay_refusal setting_refusal
shape m s td h = simp (any_delay m s td h, seeds_ok, and_true (others m s))
  where
    and_true : (b : Bool) → (b && true) ≡ b
    and_true true = refl
    and_true false = refl

-- ---- which of the first two it is

late_number : (a b c d : Bool) → (refusal_number (late a b c d) ≡ 1 → ⊥) × (refusal_number (late a b c d) ≡ 2 → ⊥)
late_number true b c d = (λ e. omega arith, λ e. omega arith)
late_number false true c d = (λ e. omega arith, λ e. omega arith)
late_number false false true d = (λ e. omega arith, λ e. omega arith)
late_number false false false true = (λ e. omega arith, λ e. omega arith)
late_number false false false false = (λ e. omega arith, λ e. omega arith)

pub late_of_lem : (m : Limits) (s : Setting) (td : ℕ) → (refusal_number (late_of m s td) ≡ 1 → ⊥) × (refusal_number (late_of m s td) ≡ 2 → ⊥)
late_of_lem m s td =
    late_number (ltb td s.trc || ltb (epoch_length s) td) (ltb m.history (history_length (with_delay s td))) (ltb s.l (row_bound (with_delay s td))) (exceeds_own s td)

-- refusal 1 or 2, by its number
first_one : (f k : Bool) (r : Refusal) → (refusal_number r ≡ 1 → ⊥) → refusal_number (refuse (not f) out_of_range (refuse k short_window r)) ≡ 1 → f ≡ false
first_one false k r h e = refl
first_one true true r h e = absurd (omega arith)
first_one true false r h e = absurd (h e)

first_two : (f k : Bool) (r : Refusal) → (refusal_number r ≡ 2 → ⊥) → refusal_number (refuse (not f) out_of_range (refuse k short_window r)) ≡ 2 → (f ≡ true) × (k ≡ true)
first_two false k r h e = absurd (omega arith)
first_two true true r h e = (refl, refl)
first_two true false r h e = absurd (h e)

first_neither : (f k : Bool) (r : Refusal) → (refuse (not f) out_of_range (refuse k short_window r) ≢ out_of_range)
    → (refuse (not f) out_of_range (refuse k short_window r) ≢ short_window) → (f ≡ true) × (k ≡ false)
first_neither false k r h1 h2 = absurd (h1 refl)
first_neither true true r h1 h2 = absurd (h2 refl)
first_neither true false r h1 h2 = (refl, refl)

pub one : InRange 1
one = (omega arith, omega arith)

number_at_one : (m : Limits) (s : Setting) (k : ℕ) → refusal_number (delay_refusal m s 1) ≡ k → refusal_number (refuse (not (others m s)) out_of_range (refuse (crowded s) short_window (late_of m s 1))) ≡ k
number_at_one m s k e = sym (ap refusal_number (shape m s 1 one)) ∙ e

-- the delay 1 is refused with 1: so is every delay in range
pub every_one : (m : Limits) (s : Setting) → refusal_number (delay_refusal m s 1) ≡ 1 → (td : ℕ) → InRange td → delay_refusal m s td ≡ out_of_range
every_one m s e td h =
    shape m s td h ∙ simp (first_one (others m s) (crowded s) (late_of m s 1) (late_of_lem m s 1).0 (number_at_one m s 1 e))

-- the same of 2
pub every_two : (m : Limits) (s : Setting) → refusal_number (delay_refusal m s 1) ≡ 2 → (td : ℕ) → InRange td → delay_refusal m s td ≡ short_window
every_two m s e td h =
    let f = first_two (others m s) (crowded s) (late_of m s 1) (late_of_lem m s 1).1 (number_at_one m s 2 e) in
    shape m s td h ∙ simp (f.0, f.1)

-- ---- a setting that meets neither: what holds of it whatever the delay

pub record Other (m : Limits) (s : Setting) : Type 0 where
  pub fields : others m s ≡ true
  pub free : crowded s ≡ false

pub other : (m : Limits) (s : Setting) → delay_refusal m s 1 ≢ out_of_range → delay_refusal m s 1 ≢ short_window → Other m s
other m s h1 h2 =
    let e = shape m s 1 one in
    let f = first_neither (others m s) (crowded s) (late_of m s 1) (λ z. h1 (e ∙ z)) (λ z. h2 (e ∙ z)) in
    record { fields = f.0; free = f.1 }

-- the same, by numbers
pub other_number : (m : Limits) (s : Setting) → (refusal_number (delay_refusal m s 1) ≡ 1 → ⊥) → (refusal_number (delay_refusal m s 1) ≡ 2 → ⊥) → Other m s
other_number m s h1 h2 = other m s (λ z. h1 (ap refusal_number z)) (λ z. h2 (ap refusal_number z))

pub other_ranges : (m : Limits) (s : Setting) → Other m s → Ranges m (with_delay s 1)
other_ranges m s o = ranges m (with_delay s 1) (rw o.fields tt)

pub other_room : (m : Limits) (s : Setting) → Other m s → 2 * s.n * s.trc ≤ s.w - 1
other_room m s o = ltb-false (s.w - 1) (2 * s.n * s.trc) o.free

pub other_shape : (m : Limits) (s : Setting) → Other m s → (td : ℕ) → InRange td → delay_refusal m s td ≡ late_of m s td
other_shape m s o td h = shape m s td h ∙ simp (o.fields, o.free)

pub neither : (m : Limits) (s : Setting) → Other m s → (td : ℕ) → InRange td → (delay_refusal m s td ≢ out_of_range) × (delay_refusal m s td ≢ short_window)
neither m s o td h =
    let l = late_of_lem m s td in
    let e = sym (other_shape m s o td h) in
    (λ z. l.0 (ap refusal_number (e ∙ z)), λ z. l.1 (ap refusal_number (e ∙ z)))

-- ---- accepted settings

-- a setting that meets none of 1 to 5: 16 decides
pub by_profile : (m : Limits) (x : Setting) → fields_in_range m x ≡ true → 2 * x.n * x.trc ≤ x.w - 1 → x.trc ≤ x.td → x.td ≤ epoch_length x
    → history_length x ≤ m.history → row_bound x ≤ x.l
    → setting_refusal m x some_seeds ≡ refuse (exceeds (profile_of x.profile) x.banks (history_length x)) above_profile none
unfolding setting_refusal
by_profile m x f room gaps delay short bound =
    simp (f, seeds_ok, le-ltb (x.w - 1) (2 * x.n * x.trc) room, le-ltb x.td x.trc gaps, le-ltb (epoch_length x) x.td delay, le-ltb m.history (history_length x) short, le-ltb x.l (row_bound x) bound)

-- so many banks and so long a history are within the profile
pub within_own : (s : Setting) (td : ℕ) → s.banks ≤ (profile_of s.profile).banks → history_length (with_delay s td) ≤ (profile_of s.profile).history → exceeds_own s td ≡ false
within_own s td b h = simp (le-ltb (profile_of s.profile).banks s.banks b, le-ltb (profile_of s.profile).history (history_length (with_delay s td)) h)

pub accepted_fields : (m : Limits) (x : Setting) → setting_refusal m x some_seeds ≡ none → fields_in_range m x ≡ true
unfolding setting_refusal
accepted_fields m x e =
    let r = refuse_none (not (fields_in_range m x && seeds_in_range some_seeds)) out_of_range _ (omega arith) e in
    is_true (fields_in_range m x) (and_l (fields_in_range m x) (seeds_in_range some_seeds) (not_not (fields_in_range m x && seeds_in_range some_seeds) r.0))

pub seeds_play_no_part : SeedsPlayNoPart
unfolding delay_refusal setting_refusal
seeds_play_no_part m s td seeds h = simp (is_true (seeds_in_range seeds) h, seeds_ok)
