-- The accepted delays are those from the least to the greatest, in the closed form.
use mathlib.Core.Path.{◌≡◌, refl, ◌∙◌}
use mathlib.Core.Bool.{Bool, true, false, ◌||◌}
use Prim.Native.Nat.{ℕ, ◌-◌, ◌*◌, ◌/◌, ◌^◌, ◌≤◌, ◌<◌}
use native.Mathlib.Omega.{arith}
use lib.Dec.{ltb}
use borrow.Author.Tests.{lt-ltb, ltb-false}
use native.Mathlib.Nat.{le_trans, le-max_left, le-max_right, max-le, min-le_left, min-le_right, le-min}
use Rattle.rules.specs.declared.Setting.{Setting}
use Rattle.rules.specs.declared.Limits.{Limits}
use Rattle.rules.specs.Answers.{none, above_profile, refuse}
use Rattle.rules.specs.Setting.{epoch_length, history_length, row_bound, with_mark, profile_of}
use Rattle.rules.proofs.Accept.{accepted}
use Rattle.rules.specs.Tested.{Accepted}
use Rattle.profiles.proofs.Refusals.{only_above}
use Rattle.plan_rules.specs.delays.Delays.{with_delay, some_seeds, delay_refusal, AcceptedDelay, InRange, Bounded}
use Rattle.plan_rules.specs.delays.Answer.{smallest_delay, least_delay, greatest_delay, own_greatest}
use Rattle.plan_rules.proofs.delays.Numbers.{bound_met, bound_missed, bound_least, history_short, history_limit}
use Rattle.plan_rules.proofs.delays.Shape.{exceeds_own, Other, other_ranges, other_room, any_delay, by_profile, within_own}

-- ---- B ≤ L, from the smallest delay on

pub smallest_low : (s : Setting) → 1 ≤ smallest_delay s
unfolding smallest_delay
smallest_low s = omega arith

pub bounded : (s : Setting) (td : ℕ) → 2 * s.n < s.l → smallest_delay s ≤ td → Bounded s td
unfolding row_bound smallest_delay
bounded s td h k = bound_met (2 * s.n) s.l (s.w - 1 - 2 * s.n * s.trc) td (omega arith) h (omega arith)

pub unbounded : (s : Setting) (td : ℕ) → 1 ≤ td → 2 * s.n < s.l → td < smallest_delay s → s.l < row_bound (with_delay s td)
unfolding row_bound smallest_delay
unbounded s td h1 h k = bound_missed (2 * s.n) s.l (s.w - 1 - 2 * s.n * s.trc) td h1 h (omega arith)

pub never_bounded : (s : Setting) (td : ℕ) → s.l ≤ 2 * s.n → s.l < row_bound (with_delay s td)
unfolding row_bound
never_bounded s td h = omega arith

bound_free : (s : Setting) (td : ℕ) → Bounded s td → 2 * s.n < s.l
unfolding row_bound
bound_free s td h = omega arith

bound_smallest : (s : Setting) (td : ℕ) → 1 ≤ td → Bounded s td → smallest_delay s ≤ td
unfolding row_bound smallest_delay
bound_smallest s td h1 h =
    let p = bound_least (2 * s.n) s.l (s.w - 1 - 2 * s.n * s.trc) td h1 h in
    omega arith

-- ---- the greatest delay

-- the limit of a width or of a profile
pub history_ok_lem : (s : Setting) (limit td : ℕ) → 1 ≤ s.tfaw → td ≤ limit / 4 * s.tfaw → history_length (with_delay s td) ≤ limit
unfolding history_length
history_ok_lem s limit td h k = history_short td s.tfaw limit h k

history_most : (s : Setting) (limit td : ℕ) → 1 ≤ s.tfaw → history_length (with_delay s td) ≤ limit → td ≤ limit / 4 * s.tfaw
unfolding history_length
history_most s limit td h k = history_limit td s.tfaw limit h k

-- the greatest H of the setting's own profile
abbrev own_history : Setting → ℕ
own_history s = (profile_of s.profile).history

-- ---- both directions

pub accepted_delay : (m : Limits) (s : Setting) (td : ℕ) → AcceptedDelay m s td → Accepted m (with_delay s td) some_seeds
unfolding delay_refusal
accepted_delay m s td e = accepted m (with_delay s td) some_seeds e

-- what an accepted delay shows
pub record Inside (m : Limits) (s : Setting) (td : ℕ) : Type 0 where
  pub in_range : InRange td
  pub free : 2 * s.n < s.l
  pub low : least_delay s ≤ td
  pub high : td ≤ greatest_delay m s
  pub own_high : td ≤ own_greatest m s
  pub own_banks : s.banks ≤ (profile_of s.profile).banks

pub inside : (m : Limits) (s : Setting) (td : ℕ) → AcceptedDelay m s td → Inside m s td
unfolding least_delay greatest_delay own_greatest
inside m s td e =
    let a = accepted_delay m s td e in
    let r = a.ranges in
    let high = le-min a.delay (history_most s m.history td r.tfaw_low a.short) in
    record {
      in_range = (r.td_low, r.td_high);
      free = bound_free s td a.bound;
      low = max-le a.gaps (bound_smallest s td r.td_low a.bound);
      high = high;
      own_high = le-min high (history_most s (own_history s) td r.tfaw_low a.history_own);
      own_banks = a.banks_own;
    }

-- a delay that gets 16 is one that the large profile accepts
pub inside_large : (m : Limits) (s : Setting) (td : ℕ) → delay_refusal m s td ≡ above_profile → Inside m (with_mark 0 s) td
unfolding delay_refusal
inside_large m s td e = inside m (with_mark 0 s) td (only_above m (with_delay s td) some_seeds e)

pub passes_large : (m : Limits) (s : Setting) (td : ℕ) → delay_refusal m s td ≡ above_profile → InRange td × (least_delay s ≤ td) × (td ≤ greatest_delay m s)
unfolding least_delay greatest_delay smallest_delay
passes_large m s td e = let i = inside_large m s td e in (i.in_range, i.low, i.high)

-- it has B ≤ L
pub never_above : (m : Limits) (s : Setting) (td : ℕ) → delay_refusal m s td ≡ above_profile → s.l < row_bound (with_delay s td) → ⊥
unfolding delay_refusal row_bound
never_above m s td e h =
    let a = (accepted m (with_mark 0 (with_delay s td)) some_seeds (only_above m (with_delay s td) some_seeds e)).bound in
    omega arith

-- an epoch is at most 2^29 ticks
greatest_high : (s : Setting) (td : ℕ) → s.w ≤ 2 ^ 30 → td ≤ epoch_length s → td ≤ 2 ^ 29
greatest_high s td h k = omega arith

-- from the least to the greatest of the large profile, 16 decides
pub by_own : (m : Limits) (s : Setting) (td : ℕ) → Other m s → 2 * s.n < s.l → least_delay s ≤ td → td ≤ greatest_delay m s
    → delay_refusal m s td ≡ refuse (exceeds_own s td) above_profile none
unfolding delay_refusal least_delay greatest_delay
by_own m s td o free low high =
    let r = other_ranges m s o in
    let gaps : s.trc ≤ td = le_trans (le-max_left s.trc (smallest_delay s)) low in
    let small : smallest_delay s ≤ td = le_trans (le-max_right s.trc (smallest_delay s)) low in
    let epoch : td ≤ epoch_length s = le_trans high (min-le_left (epoch_length s) (m.history / 4 * s.tfaw)) in
    let places : td ≤ m.history / 4 * s.tfaw = le_trans high (min-le_right (epoch_length s) (m.history / 4 * s.tfaw)) in
    let in_range : InRange td = (le_trans r.trc_low gaps, greatest_high s td r.w_high epoch) in
    by_profile m (with_delay s td) (any_delay m s td in_range ∙ o.fields) (other_room m s o) gaps epoch (history_ok_lem s m.history td r.tfaw_low places) (bounded s td free small)

pub accept_between : (m : Limits) (s : Setting) (td : ℕ) → Other m s → 2 * s.n < s.l → s.banks ≤ (profile_of s.profile).banks
    → least_delay s ≤ td → td ≤ own_greatest m s → AcceptedDelay m s td
unfolding own_greatest
accept_between m s td o free banks low high =
    let other = greatest_delay m s in
    let places = own_history s / 4 * s.tfaw in
    let own = history_ok_lem s (own_history s) td (other_ranges m s o).tfaw_low (le_trans high (min-le_right other places)) in
    by_own m s td o free low (le_trans high (min-le_left other places)) ∙ simp (within_own s td banks own)

-- above the profile: by its banks, or by the history of a delay above its greatest
pub above_banks : (s : Setting) (td : ℕ) → (profile_of s.profile).banks < s.banks → exceeds_own s td ≡ true
above_banks s td h = simp (lt-ltb (profile_of s.profile).banks s.banks h)

pub above_history : (m : Limits) (s : Setting) (td : ℕ) → 1 ≤ s.tfaw → td ≤ greatest_delay m s → own_greatest m s < td → exceeds_own s td ≡ true
unfolding own_greatest
above_history m s td f high h = go (ltb (own_history s) (history_length (with_delay s td))) refl
  where
    either : (a b : Bool) → b ≡ true → (a || b) ≡ true
    either true b e = refl
    either false b e = e

    go : (b : Bool) → ltb (own_history s) (history_length (with_delay s td)) ≡ b → exceeds_own s td ≡ true
    go true e = either (ltb (profile_of s.profile).banks s.banks) (ltb (own_history s) (history_length (with_delay s td))) e
    go false e =
        let k = le-min high (history_most s (own_history s) td f (ltb-false (own_history s) (history_length (with_delay s td)) e)) in
        absurd (omega arith)
