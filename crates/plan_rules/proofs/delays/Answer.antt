-- The closed form says the right thing of every setting.
use mathlib.Core.Path.{◌≡◌, refl, sym, ap, subst, ◌∙◌}
use mathlib.Core.Logic.{◌≢◌}
use mathlib.Core.Bool.{Bool, true, false, ◌&&◌, cond}
use Prim.Native.Nat.{ℕ, ◌*◌, ◌^◌, ◌≤◌, ◌<◌}
use native.Mathlib.Omega.{arith}
use native.Mathlib.Nat.{le_refl}
use lib.Dec.{leb, ltb, eqb}
use borrow.Author.Tests.{ltb-true, ltb-false, leb-true, leb-false, eqb-true, eqb-false}
use Rattle.std.specs.Prelude.{Result, Ok, Err}
use Rattle.std.specs.Result.{result_and}
use Rattle.rules.specs.declared.Setting.{Setting}
use Rattle.rules.specs.declared.Limits.{Limits}
use Rattle.rules.specs.declared.Profile.{Profile}
use Rattle.rules.specs.Answers.{none, out_of_range, short_window, above_profile, refusal_number}
use Rattle.rules.specs.Setting.{row_bound, profile_of}
use Rattle.refused.specs.declared.Refusal.{Refusal}
use Rattle.refused.specs.declared.Refusal.TheVariants.{OutOfRange, ShortWindow, AboveLimit, AboveProfile}
use Rattle.refused.specs.Numbers.{number_of, code_of}
use Rattle.refused.specs.Passed.{passed}
use Rattle.refused.proofs.Laws.{code_passed, passed_ok}
use Rattle.plan_rules.specs.delays.Delays.{from_to, with_delay, delay_refusal, InRange, Ends, Smallest, Reason, every_delay, only_profile, smallest_delay, no_delay, Says}
use Rattle.plan_rules.specs.delays.Answer as closed
use Rattle.plan_rules.specs.delays.Answer.{least_delay, greatest_delay, own_greatest, delays_within, delays_above, delays_of}
use Rattle.plan_rules.specs.delays.Claims.{Right, DelayPlaysNoPart}
use Rattle.plan_rules.proofs.delays.Shape.{exceeds_own, Other, other_number, other_ranges, every_one, every_two, neither}
use Rattle.plan_rules.proofs.delays.Interval.{smallest_low, bounded, unbounded, never_bounded, accepted_delay, inside, passes_large, by_own, accept_between, above_banks, above_history}

-- by cases of a test, with what each case shows
by_test : {A : Type 0} (P : A → Type 0) (b : Bool) (x y : A) → (b ≡ true → P x) → (b ≡ false → P y) → P (cond b x y)
by_test P true x y f g = f refl
by_test P false x y f g = g refl

-- where no delay in range is accepted, none is
none_at_all : (m : Limits) (s : Setting) → ((td : ℕ) → InRange td → delay_refusal m s td ≢ none) → (td : ℕ) → delay_refusal m s td ≢ none
none_at_all m s f td e = f td (inside m s td e).in_range e

-- where every delay in range gets one refusal
every : (m : Limits) (s : Setting) (why : Refusal) → Reason m s (number_of why) → ((td : ℕ) → InRange td → delay_refusal m s td ≢ none) → Says m s (Err why)
every m s why r f = (none_at_all m s f, r)

-- where one delay has the refusal that is given
of_one : (m : Limits) (s : Setting) (d : ℕ) → ((td : ℕ) → delay_refusal m s td ≢ none) → Reason m s (refusal_number (delay_refusal m s d))
    → Says m s (result_and (passed (delay_refusal m s d)) (Err AboveLimit))
of_one m s d nothing r = go (passed (delay_refusal m s d)) refl
  where
    go : (p : Result (Unit {0}) Refusal) → passed (delay_refusal m s d) ≡ p → Says m s (result_and p (Err AboveLimit))
    go (Ok u) e = absurd (nothing d (passed_ok (delay_refusal m s d) u e))
    go (Err why) e = (nothing, subst (Reason m s) (sym (code_passed (delay_refusal m s d)) ∙ ap code_of e) r)

-- ---- an interval

ends : (m : Limits) (s : Setting) → Other m s → 2 * s.n < s.l → s.banks ≤ (profile_of s.profile).banks → least_delay s ≤ own_greatest m s
    → Ends m s (least_delay s) (own_greatest m s)
ends m s o free banks h =
    record {
      ordered = h;
      least_accepted = accept_between m s (least_delay s) o free banks (le_refl (least_delay s)) h;
      greatest_accepted = accept_between m s (own_greatest m s) o free banks h (le_refl (own_greatest m s));
      between = λ td low high. accept_between m s td o free banks low high;
      below = λ td k e. let i = (inside m s td e).low in omega arith;
      above = λ td k e. let i = (inside m s td e).own_high in omega arith;
    }

-- ---- none

empty : (m : Limits) (s : Setting) → greatest_delay m s < least_delay s → (td : ℕ) → delay_refusal m s td ≢ none
empty m s h td e =
    let i = inside m s td e in
    let l = i.low in
    let g = i.high in
    omega arith

-- nor does any delay get 16
empty_large : (m : Limits) (s : Setting) → greatest_delay m s < least_delay s → (td : ℕ) → delay_refusal m s td ≢ above_profile
empty_large m s h td e =
    let i = passes_large m s td e in
    let l = i.1 in
    let g = i.2 in
    omega arith

-- no delay in range has B ≤ L
no_bound : (m : Limits) (s : Setting) → Other m s → ((td : ℕ) → InRange td → s.l < row_bound (with_delay s td)) → Reason m s 5
no_bound m s o f = no_delay refl (λ td h. let k = neither m s o td h in (f td h, k.0, k.1))

smallest : (s : Setting) → 2 * s.n < s.l → closed.smallest_delay s ≤ 2 ^ 29 → Smallest s (closed.smallest_delay s)
smallest s free h =
    record {
      in_range = (smallest_low s, h);
      bounded = bounded s (closed.smallest_delay s) free (le_refl (closed.smallest_delay s));
      first = λ td h1 k. unbounded s td h1 free k;
    }

-- ---- where the large profile accepts a delay

-- only the profile excludes every delay: the least one gets 16
sixteen : (m : Limits) (s : Setting) → Other m s → 2 * s.n < s.l → least_delay s ≤ greatest_delay m s → exceeds_own s (least_delay s) ≡ true
    → ((td : ℕ) → delay_refusal m s td ≢ none) → Says m s (Err AboveProfile)
sixteen m s o free h x nothing =
    (nothing, only_profile (least_delay s) refl (by_own m s (least_delay s) o free (le_refl (least_delay s)) h ∙ simp x))

within : (m : Limits) (s : Setting) → Other m s → 2 * s.n < s.l → least_delay s ≤ greatest_delay m s → Says m s (delays_within m s)
unfolding delays_within
within m s o free h = go (leb s.banks own.banks) refl
  where
    own : Profile
    own = profile_of s.profile

    go : (b : Bool) → leb s.banks own.banks ≡ b → Says m s (cond (b && leb (least_delay s) (own_greatest m s)) (from_to (least_delay s) (own_greatest m s)) (Err AboveProfile))
    go true e =
        by_test (Says m s) (leb (least_delay s) (own_greatest m s)) (from_to (least_delay s) (own_greatest m s)) (Err AboveProfile)
        (λ k. ends m s o free (leb-true s.banks own.banks e) (leb-true (least_delay s) (own_greatest m s) k))
        (λ k.
        let far = leb-false (least_delay s) (own_greatest m s) k in
        sixteen m s o free h (above_history m s (least_delay s) (other_ranges m s o).tfaw_low h far)
        (λ td z. let i = inside m s td z in let l = i.low in let g = i.own_high in omega arith))
    go false e =
        let far = leb-false s.banks own.banks e in
        sixteen m s o free h (above_banks s (least_delay s) far) (λ td z. let i = (inside m s td z).own_banks in omega arith)

above : (m : Limits) (s : Setting) → Other m s → 2 * s.n < s.l → Says m s (delays_above m s)
unfolding delays_above
above m s o free =
    by_test (Says m s) (leb (least_delay s) (greatest_delay m s)) (delays_within m s) _
    (λ e. within m s o free (leb-true (least_delay s) (greatest_delay m s) e))
    (λ e.
    let far = leb-false (least_delay s) (greatest_delay m s) e in
    let nothing = empty m s far in
    by_test (Says m s) (ltb (2 ^ 29) (closed.smallest_delay s)) (Err AboveLimit) _
    (λ k.
    let large = ltb-true (2 ^ 29) (closed.smallest_delay s) k in
    (nothing, no_bound m s o (λ td h. unbounded s td h.0 free (omega arith))))
    (λ k. of_one m s (closed.smallest_delay s) nothing (smallest_delay (closed.smallest_delay s) (smallest s free (ltb-false (2 ^ 29) (closed.smallest_delay s) k)) (empty_large m s far) refl)))

pub right : Right
unfolding delays_of
right m s =
    let first = refusal_number (delay_refusal m s 1) in
    by_test (Says m s) (eqb first 1) (Err OutOfRange) _
    (λ e.
    let all = every_one m s (eqb-true first 1 e) in
    every m s OutOfRange (every_delay out_of_range refl all) (λ td h z. let k = ap refusal_number (sym (all td h) ∙ z) in omega arith))
    (λ e1.
    by_test (Says m s) (eqb first 2) (Err ShortWindow) _
    (λ e.
    let all = every_two m s (eqb-true first 2 e) in
    every m s ShortWindow (every_delay short_window refl all) (λ td h z. let k = ap refusal_number (sym (all td h) ∙ z) in omega arith))
    (λ e2.
    let o = other_number m s (eqb-false first 1 e1) (eqb-false first 2 e2) in
    by_test (Says m s) (leb s.l (2 * s.n)) (Err AboveLimit) _
    (λ e.
    let low = leb-true s.l (2 * s.n) e in
    ((λ td z. let a = (accepted_delay m s td z).bound in let b = never_bounded s td low in omega arith), no_bound m s o (λ td h. never_bounded s td low)))
    (λ e. above m s o (leb-false s.l (2 * s.n) e))))

pub delay_plays_no_part : DelayPlaysNoPart
unfolding delays_of delays_above delays_within least_delay greatest_delay own_greatest closed.smallest_delay delay_refusal
delay_plays_no_part m s td = refl
