-- Only one answer is right: what the answers say of a setting settles them.
use mathlib.Core.Path.{◌≡◌, refl, sym, ap, ◌∙◌}
use mathlib.Core.Logic.{◌≢◌}
use mathlib.Core.Bool.{Bool, true, false, ◌||◌, cond}
use Prim.Native.Nat.{ℕ, ◌*◌, ◌/◌, ◌≤◌, ◌<◌}
use native.Mathlib.Omega.{arith}
use native.Mathlib.Nat.{le_refl, mul-le-mul}
use lib.Dec.{ltb, eqb}
use borrow.Author.Tests.{ltb-true, ltb-false, le-ltb, lt-ltb}
use Rattle.std.specs.Prelude.{Ok, Err}
use Rattle.rules.specs.declared.Setting.{Setting}
use Rattle.rules.specs.declared.Limits.{Limits}
use Rattle.rules.specs.Answers.{Refusal, out_of_range, short_window, above_limit, above_profile, refusal_number}
use Rattle.rules.specs.Setting.{epoch_length, history_length, row_bound}
use Rattle.refused.specs.declared.Refusal as refused
use Rattle.refused.specs.declared.Refusal.TheVariants.{OutOfRange, ShortWindow, BadDelay, LongHistory, AboveLimit, AboveProfile, ShortBuffer, BadMemory, OutsideSetting, BadTick, NoneInFlight}
use Rattle.refused.specs.Numbers.{number_of}
use Rattle.plan_rules.specs.delays.Delays.{from_to, with_delay, delay_refusal, InRange, Ends, Smallest, Reason, every_delay, only_profile, smallest_delay, no_delay}
use Rattle.plan_rules.specs.delays.Claims.{OnlyOne}
use Rattle.plan_rules.proofs.delays.Shape.{exceeds_own, Other, other, other_ranges, other_room, other_shape, late, late_of, one}
use Rattle.plan_rules.proofs.delays.Interval.{history_ok_lem, passes_large, never_above}
use Rattle.plan_rules.proofs.delays.Numbers.{epoch_holds}

-- neither is below the other
neither_below : (a b : ℕ) → (a < b → ⊥) → (b < a → ⊥) → a ≡ b
neither_below a b f g = go (ltb a b) (ltb b a) refl refl
  where
    go : (x y : Bool) → ltb a b ≡ x → ltb b a ≡ y → a ≡ b
    go true y e k = absurd (f (ltb-true a b e))
    go false true e k = absurd (g (ltb-true b a k))
    go false false e k =
        let p = ltb-false a b e in
        let q = ltb-false b a k in
        omega arith

same_ends : (m : Limits) (s : Setting) (a b c d : ℕ) → Ends m s a b → Ends m s c d → from_to a b ≡ from_to c d
same_ends m s a b c d x y =
    let p : a ≡ c = neither_below a c (λ h. y.below a h x.least_accepted) (λ h. x.below c h y.least_accepted) in
    let q : b ≡ d = neither_below b d (λ h. x.above d h y.greatest_accepted) (λ h. y.above b h x.greatest_accepted) in
    cc

-- ---- the refusals

-- the delay tRC is not refused with 3, the delay 1 not with 4, and both have B > L: the refusal that both get is 5
late_both : (a b c d : Bool) → late false b true c ≡ late a false true d → late a false true d ≡ above_limit
late_both true true c d e = absurd (omega (arith, ap refusal_number e))
late_both true false c d e = absurd (omega (arith, ap refusal_number e))
late_both false b c d e = refl

late_trc : (m : Limits) (s : Setting) → Other m s → s.l < row_bound (with_delay s s.trc)
    → late_of m s s.trc ≡ late false (ltb m.history (history_length (with_delay s s.trc))) true (exceeds_own s s.trc)
late_trc m s o h =
    let r = other_ranges m s o in
    let epoch : s.trc ≤ epoch_length s = epoch_holds s.n s.trc s.w r.n_low (other_room m s o) in
    simp (le-ltb s.trc s.trc (le_refl s.trc), le-ltb (epoch_length s) s.trc epoch, lt-ltb s.l (row_bound (with_delay s s.trc)) h)

late_one : (m : Limits) (s : Setting) → 4 ≤ m.history → Other m s → s.l < row_bound (with_delay s 1)
    → late_of m s 1 ≡ late (ltb 1 s.trc || ltb (epoch_length s) 1) false true (exceeds_own s 1)
late_one m s wide o h =
    let r = other_ranges m s o in
    let places : 1 ≤ m.history / 4 * s.tfaw = mul-le-mul {n₁ = 1} {m₁ = 1} (omega arith) r.tfaw_low in
    simp (le-ltb m.history (history_length (with_delay s 1)) (history_ok_lem s m.history 1 r.tfaw_low places), lt-ltb s.l (row_bound (with_delay s 1)) h)

every_five : (m : Limits) (s : Setting) (r : Refusal) → 4 ≤ m.history → ((td : ℕ) → InRange td → delay_refusal m s td ≡ r)
    → ((td : ℕ) → InRange td → (s.l < row_bound (with_delay s td)) × (delay_refusal m s td ≢ out_of_range) × (delay_refusal m s td ≢ short_window))
    → r ≡ above_limit
every_five m s r wide f g =
    let o = other m s (g 1 one).1 (g 1 one).2 in
    let k = other_ranges m s o in
    let trc : InRange s.trc = (k.trc_low, let h = k.trc_high in omega arith) in
    let x = sym (f s.trc trc) ∙ other_shape m s o s.trc trc ∙ late_trc m s o (g s.trc trc).0 in
    let y = sym (f 1 one) ∙ other_shape m s o 1 one ∙ late_one m s wide o (g 1 one).0 in
    y
    ∙ late_both (ltb 1 s.trc || ltb (epoch_length s) 1) (ltb m.history (history_length (with_delay s s.trc))) (exceeds_own s s.trc) (exceeds_own s 1)
    (sym x ∙ y)

-- a smallest delay, where there is none
no_smallest : (m : Limits) (s : Setting) (d : ℕ) → Smallest s d → ((td : ℕ) → InRange td → (s.l < row_bound (with_delay s td)) × (delay_refusal m s td ≢ out_of_range) × (delay_refusal m s td ≢ short_window)) → ⊥
no_smallest m s d x g =
    let a = x.bounded in
    let b = (g d x.in_range).0 in
    omega arith

same_smallest : (s : Setting) (c d : ℕ) → Smallest s c → Smallest s d → c ≡ d
same_smallest s c d x y = neither_below c d (less s c d x y) (less s d c y x)
  where
    less : (s : Setting) (c d : ℕ) → Smallest s c → Smallest s d → c < d → ⊥
    less s c d x y h =
        let a = x.bounded in
        let b = y.first c x.in_range.0 h in
        omega arith

-- a delay that gets 16, where every delay in range gets one refusal: it is in range
same_above : (m : Limits) (s : Setting) (td : ℕ) (r : Refusal) → delay_refusal m s td ≡ above_profile → ((x : ℕ) → InRange x → delay_refusal m s x ≡ r) → refusal_number r ≡ 16
same_above m s td r e f = ap refusal_number (sym (f td (passes_large m s td e).0) ∙ e)

-- one where no delay in range has B ≤ L
no_above : (m : Limits) (s : Setting) (td : ℕ) → delay_refusal m s td ≡ above_profile
    → ((x : ℕ) → InRange x → (s.l < row_bound (with_delay s x)) × (delay_refusal m s x ≢ out_of_range) × (delay_refusal m s x ≢ short_window)) → ⊥
no_above m s td e g = never_above m s td e (g td (passes_large m s td e).0).0

same_reason : (m : Limits) (s : Setting) (i j : ℕ) → 4 ≤ m.history → Reason m s i → Reason m s j → i ≡ j
same_reason m s i j wide (every_delay r e f) (every_delay q k g) = e ∙ ap refusal_number (sym (f 1 one) ∙ g 1 one) ∙ sym k
same_reason m s i j wide (every_delay r e f) (only_profile td k x) = e ∙ same_above m s td r x f ∙ sym k
same_reason m s i j wide (every_delay r e f) (smallest_delay d x n k) = e ∙ ap refusal_number (sym (f d x.in_range)) ∙ sym k
same_reason m s i j wide (every_delay r e f) (no_delay k g) = e ∙ ap refusal_number (every_five m s r wide f g) ∙ sym k
same_reason m s i j wide (only_profile td k x) (every_delay r e f) = k ∙ sym (same_above m s td r x f) ∙ sym e
same_reason m s i j wide (only_profile td k x) (only_profile te l y) = k ∙ sym l
same_reason m s i j wide (only_profile td k x) (smallest_delay d y n l) = absurd (n td x)
same_reason m s i j wide (only_profile td k x) (no_delay l g) = absurd (no_above m s td x g)
same_reason m s i j wide (smallest_delay d x n k) (every_delay r e f) = k ∙ ap refusal_number (f d x.in_range) ∙ sym e
same_reason m s i j wide (smallest_delay d y n l) (only_profile td k x) = absurd (n td x)
same_reason m s i j wide (smallest_delay c x n k) (smallest_delay d y o e) = k ∙ ap (λ (z : ℕ). refusal_number (delay_refusal m s z)) (same_smallest s c d x y) ∙ sym e
same_reason m s i j wide (smallest_delay d x n k) (no_delay e g) = absurd (no_smallest m s d x g)
same_reason m s i j wide (no_delay k g) (every_delay r e f) = k ∙ ap refusal_number (sym (every_five m s r wide f g)) ∙ sym e
same_reason m s i j wide (no_delay l g) (only_profile td k x) = absurd (no_above m s td x g)
same_reason m s i j wide (no_delay k g) (smallest_delay d x n e) = absurd (no_smallest m s d x g)
same_reason m s i j wide (no_delay k g) (no_delay e h) = k ∙ sym e

-- no two refusals have one number
named : ℕ → refused.Refusal
named n =
    cond (eqb n 1) OutOfRange (cond (eqb n 2) ShortWindow (cond (eqb n 3) BadDelay (cond (eqb n 4) LongHistory (cond (eqb n 5) AboveLimit
    (cond (eqb n 16) AboveProfile (cond (eqb n 6) ShortBuffer (cond (eqb n 7) BadMemory (cond (eqb n 8) OutsideSetting (cond (eqb n 9) BadTick NoneInFlight)))))))))

named_back : (r : refused.Refusal) → named (number_of r) ≡ r
unfolding named
named_back OutOfRange = refl
named_back ShortWindow = refl
named_back BadDelay = refl
named_back LongHistory = refl
named_back AboveLimit = refl
named_back AboveProfile = refl
named_back ShortBuffer = refl
named_back BadMemory = refl
named_back OutsideSetting = refl
named_back BadTick = refl
named_back NoneInFlight = refl

number_same : (a b : refused.Refusal) → number_of a ≡ number_of b → a ≡ b
number_same a b e = sym (named_back a) ∙ ap named e ∙ named_back b

pub only_one : OnlyOne
only_one m s (Ok a) (Ok b) wide x y = same_ends m s a.least a.greatest b.least b.greatest x y
only_one m s (Ok a) (Err j) wide x y = absurd (y.0 a.least x.least_accepted)
only_one m s (Err i) (Ok b) wide x y = absurd (x.0 b.least y.least_accepted)
only_one m s (Err i) (Err j) wide x y = ap (λ (r : refused.Refusal). Err r) (number_same i j (same_reason m s (number_of i) (number_of j) wide x.1 y.1))
