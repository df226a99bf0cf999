-- The trade between N and tD: a smaller N keeps every accepted delay, so the least delay never falls as N grows. A larger L and wider limits keep them too.
use mathlib.Core.Path.{◌≡◌, refl, sym, ap, subst, ◌∙◌}
use mathlib.Core.Bool.{Bool, true, false, ◌&&◌, cond}
use Prim.Native.Nat.{ℕ, ◌-◌, ◌*◌, ◌^◌, ◌≤◌, ◌<◌}
use native.Mathlib.Omega.{arith}
use native.Mathlib.Nat.{le_trans, max-eq_left, max-eq_right}
use lib.Dec.{leb, ltb, eqb}
use borrow.Author.Tests.{ltb-true, ltb-false}
use Rattle.rules.specs.declared.Setting.{Setting}
use Rattle.rules.specs.declared.Limits.{Limits}
use Rattle.std.specs.Prelude.{Result, Ok, Err}
use Rattle.std.specs.Result.{result_and}
use Rattle.rules.specs.Answers.{refusal_number}
use Rattle.rules.specs.Setting.{history_length, row_bound, profile_of}
use Rattle.rules.specs.Tested.{Accepted}
use Rattle.refused.specs.declared.Refusal.{Refusal}
use Rattle.refused.specs.declared.Refusal.TheVariants.{OutOfRange, ShortWindow, AboveLimit, AboveProfile}
use Rattle.refused.specs.Passed.{passed}
use Rattle.plan_rules.specs.declared.delays.Delays.{Delays}
use Rattle.plan_rules.specs.delays.Delays.{Plan, from_to, with_delay, with_threshold, with_limit, some_seeds, delay_refusal, AcceptedDelay, Ends, Says}
use Rattle.plan_rules.specs.delays.Answer.{smallest_delay, least_delay, greatest_delay, own_greatest, delays_within, delays_above, delays_of}
use Rattle.plan_rules.specs.delays.Claims.{LongerDelay, Nested, Grows, UpToLast, LargerLimit, WiderLimits, Flat, Decided}
use Rattle.plan_rules.proofs.delays.Numbers.{quotient_falls, ceil_grows, bound_grows, room_kept, smallest_below, smallest_above}
use Rattle.plan_rules.proofs.delays.Shape.{any_threshold, any_limit, any_width, by_profile, within_own, accepted_fields}
use Rattle.plan_rules.proofs.delays.Interval.{accepted_delay, inside}
use Rattle.plan_rules.proofs.delays.Answer.{right}

-- ---- a longer delay

pub longer_delay : LongerDelay
unfolding row_bound history_length
longer_delay s a b h k f =
    let q = quotient_falls (s.w - 1 - 2 * s.n * s.trc) a b h k in
    let c = ceil_grows a b s.tfaw f k in
    (omega arith, omega arith)

-- ---- accepted delays with a smaller threshold

history_same : (s : Setting) (n more td : ℕ) → history_length (with_delay (with_threshold s n) td) ≡ history_length (with_delay (with_threshold s more) td)
unfolding history_length
history_same s n more td = refl

bound_smaller : (s : Setting) (n more td : ℕ) → n ≤ more → s.trc ≤ td → 1 ≤ td → 2 * more * s.trc ≤ s.w - 1
    → row_bound (with_delay (with_threshold s n) td) ≤ row_bound (with_delay (with_threshold s more) td)
unfolding row_bound
bound_smaller s n more td h gaps h1 room = bound_grows n more s.trc td (s.w - 1) h gaps h1 room

pub nested : Nested
unfolding delay_refusal
nested m s n more td h k e =
    let x = with_delay (with_threshold s more) td in
    let a : Accepted m x some_seeds = accepted_delay m (with_threshold s more) td e in
    let f = any_threshold m s n more td h k a.ranges.n_high ∙ accepted_fields m x e in
    let same = history_same s more n td in
    by_profile m (with_delay (with_threshold s n) td) f (room_kept n more s.trc (s.w - 1) k a.room) a.gaps a.delay
    (subst (λ (y : ℕ). y ≤ m.history) same a.short)
    (le_trans (bound_smaller s n more td k a.gaps a.ranges.td_low a.room) a.bound)
    ∙ simp (within_own (with_threshold s n) td a.banks_own (subst (λ (y : ℕ). y ≤ (profile_of s.profile).history) same a.history_own))

-- ---- with a larger limit

pub larger_limit : LargerLimit
unfolding delay_refusal history_length row_bound
larger_limit m s l more td h top e =
    let x = with_delay (with_limit s l) td in
    let a : Accepted m x some_seeds = accepted_delay m (with_limit s l) td e in
    let f = any_limit m s l more td a.ranges.l_low h top ∙ accepted_fields m x e in
    by_profile m (with_delay (with_limit s more) td) f a.room a.gaps a.delay a.short (le_trans a.bound h)
    ∙ simp (within_own (with_limit s more) td a.banks_own a.history_own)

-- ---- the answers for two thresholds

says : (m : Limits) (s : Setting) (p : Plan) → delays_of m s ≡ p → Says m s p
says m s p e = subst (Says m s) e (right m s)

-- the two ends of an answer are the closed form's
pub ends_are : (m : Limits) (s : Setting) (a b : ℕ) → delays_of m s ≡ from_to a b → (a ≡ least_delay s) × (b ≡ own_greatest m s)
unfolding delays_of delays_above delays_within
ends_are m s a b e =
    go (eqb (refusal_number (delay_refusal m s 1)) 1) (eqb (refusal_number (delay_refusal m s 1)) 2) (leb s.l (2 * s.n)) (leb (least_delay s) (greatest_delay m s))
    (leb s.banks (profile_of s.profile).banks && leb (least_delay s) (own_greatest m s)) (ltb (2 ^ 29) (smallest_delay s)) (passed (delay_refusal m s (smallest_delay s))) e
  where
    go : (c1 c2 c3 c4 c5 c6 : Bool) (p : Result (Unit {0}) Refusal)
        → cond c1 (Err OutOfRange) (cond c2 (Err ShortWindow) (cond c3 (Err AboveLimit) (cond c4 (cond c5 (from_to (least_delay s) (own_greatest m s)) (Err AboveProfile)) (cond c6 (Err AboveLimit) (result_and p (Err AboveLimit)))))) ≡ from_to a b
        → (a ≡ least_delay s) × (b ≡ own_greatest m s)
    go true c2 c3 c4 c5 c6 p e = absurd cc
    go false true c3 c4 c5 c6 p e = absurd cc
    go false false true c4 c5 c6 p e = absurd cc
    go false false false true true c6 p e =
        let same : ◌≡◌ {A = Delays} (record { least = least_delay s; greatest = own_greatest m s }) (record { least = a; greatest = b }) = cc in
        (sym (ap (λ (d : Delays). d.least) same), sym (ap (λ (d : Delays). d.greatest) same))
    go false false false true false c6 p e = absurd cc
    go false false false false c5 true p e = absurd cc
    go false false false false c5 false (Ok u) e = absurd cc
    go false false false false c5 false (Err why) e = absurd cc

greatest_same : (m : Limits) (s : Setting) (n more : ℕ) → own_greatest m (with_threshold s n) ≡ own_greatest m (with_threshold s more)
unfolding own_greatest greatest_delay
greatest_same m s n more = refl

-- an accepted delay is not below the least one
not_below : (m : Limits) (s : Setting) (a b td : ℕ) → Ends m s a b → AcceptedDelay m s td → a ≤ td
not_below m s a b td x e = go (ltb td a) refl
  where
    go : (t : Bool) → ltb td a ≡ t → a ≤ td
    go true k = absurd (x.below td (ltb-true td a k) e)
    go false k = ltb-false td a k

-- nor above the greatest
not_above : (m : Limits) (s : Setting) (a b td : ℕ) → Ends m s a b → AcceptedDelay m s td → td ≤ b
not_above m s a b td x e = go (ltb b td) refl
  where
    go : (t : Bool) → ltb b td ≡ t → td ≤ b
    go true k = absurd (x.above td (ltb-true b td k) e)
    go false k = ltb-false b td k

pub grows : Grows
grows m s n more a b c d h p q =
    let x : Ends m (with_threshold s n) a b = says m (with_threshold s n) (from_to a b) p in
    let y : Ends m (with_threshold s more) c d = says m (with_threshold s more) (from_to c d) q in
    let low = (accepted_delay m (with_threshold s n) a x.least_accepted).ranges.n_low in (
      not_below m (with_threshold s n) a b c x (nested m s n more c low h y.least_accepted),
      (ends_are m (with_threshold s n) a b p).1 ∙ greatest_same m s n more ∙ sym (ends_are m (with_threshold s more) c d q).1,
    )

pub up_to_last : UpToLast
up_to_last m s n more why low h p c d q =
    let y : Ends m (with_threshold s more) c d = says m (with_threshold s more) (from_to c d) q in
    (says m (with_threshold s n) (Err why) p).0 c (nested m s n more c low h y.least_accepted)

-- ---- at wider limits

wider : (m more : Limits) (s : Setting) (td : ℕ) → m.threshold ≤ more.threshold → m.history ≤ more.history → AcceptedDelay m s td → AcceptedDelay more s td
unfolding delay_refusal
wider m more s td n h e =
    let x = with_delay s td in
    let a : Accepted m x some_seeds = accepted_delay m s td e in
    let r = a.ranges in
    by_profile more x (any_width m more x r.n_low r.n_high n ∙ accepted_fields m x e) a.room a.gaps a.delay (le_trans a.short h) a.bound
    ∙ simp (within_own s td a.banks_own a.history_own)

pub wider_limits : WiderLimits
wider_limits m more s a b n h e = go (delays_of more s) refl
  where
    x : Ends m s a b
    x = says m s (from_to a b) e

    go : (p : Plan) → delays_of more s ≡ p → (c : ℕ) × (b ≤ c) × (delays_of more s ≡ from_to a c)
    go (Err why) q = absurd ((says more s (Err why) q).0 a (wider m more s a n h x.least_accepted))
    go (Ok z) q =
        let c = z.least in
        let d = z.greatest in
        let least : c ≡ a = (ends_are more s c d q).0 ∙ sym (ends_are m s a b e).0 in (
          d,
          not_above more s c d b (says more s (Ok z) q) (wider m more s b n h x.greatest_accepted),
          subst (λ (y : ℕ). delays_of more s ≡ from_to y d) least q,
        )

-- ---- where it grows

least_flat : (s : Setting) → 2 * s.n < s.l → 2 * s.n * s.trc ≤ s.w - 1 → s.w - 1 < s.trc * s.l → least_delay s ≡ s.trc
unfolding least_delay smallest_delay
least_flat s free room h =
    let k = smallest_below s.n s.l s.trc (s.w - 1) free room h in
    max-eq_left (omega arith)

pub flat : Flat
flat m s a b h e =
    let x : Ends m s a b = says m s (from_to a b) e in
    let i = inside m s a x.least_accepted in
    let r = accepted_delay m s a x.least_accepted in
    (ends_are m s a b e).0 ∙ least_flat s i.free r.room h

least_decided : (s : Setting) → 2 * s.n < s.l → s.trc * s.l ≤ s.w - 1 → least_delay s ≡ smallest_delay s
unfolding least_delay smallest_delay
least_decided s free h =
    let k = smallest_above s.n s.l s.trc (s.w - 1) free h in
    max-eq_right (omega arith)

pub decided : Decided
decided m s a b h e =
    let x : Ends m s a b = says m s (from_to a b) e in
    (ends_are m s a b e).0 ∙ least_decided s (inside m s a x.least_accepted).free h
