-- What the answer says: it is the formula where a width accepts the setting, and no list of calls exceeds it.
use mathlib.Core.Path.{◌≡◌, refl, sym, ap, ◌∙◌, subst}
use mathlib.Core.List.{List}
use mathlib.Core.Bool.{Bool, true, false, cond}
use Prim.Native.Nat.{ℕ, zero, suc, ◌-◌, ◌≤◌}
use native.Mathlib.Omega.{arith}
use native.Mathlib.Nat.{le_trans}
use borrow.Author.Tests.{ne_eqb}
use lib.Dec.{eqb}
use Rattle.std.specs.Prelude.{Result, Ok, Err}
use Rattle.std.specs.Result.{result_and}
use Rattle.rules.specs.declared.Setting.{Setting}
use Rattle.rules.specs.Answers.{none}
use Rattle.rules.specs.Setting.{setting_of, setting_refusal}
use Rattle.rules.specs.Policy.{limits02}
use Rattle.rules.specs.Calls.{times_activated}
use Rattle.rules.specs.Claims.{free_most, span_bound}
use Rattle.rules.proofs.Accept.{accepted, epoch_long}
use Rattle.widths.proofs.Theorems.{theorems as widths}
use Rattle.interface.specs.Claims.{openings_from}
use Rattle.interface.proofs.Theorems.{theorems as interface}
use Rattle.plan_rules.specs.delays.Delays.{some_seeds, delay_refusal}
use Rattle.plan_rules.proofs.delays.Theorems.{theorems as delays}
use Rattle.refused.specs.declared.Refusal.{Refusal}
use Rattle.refused.specs.declared.Refusal.TheVariants.{OutOfRange}
use Rattle.refused.specs.Passed.{passed}
use Rattle.plan_rules.specs.spans.Spans.{span_refusal, span_of, Room}
use Rattle.plan_rules.specs.spans.Claims.{NeverMore, Answered, SeedsPlayNoPart, NeverFalls, OneATick, InWindows, InOneWindow}
use Rattle.plan_rules.proofs.spans.Most.{more_ticks, more_free}
use Rattle.plan_rules.proofs.spans.Free.{free_grows, one_a_tick}
use Rattle.plan_rules.proofs.spans.Windows.{in_windows, in_one_window}

-- what the code uses of an accepted setting
pub room_of : (s : Setting) (seeds : List ℕ) → setting_refusal limits02 s seeds ≡ none → Room s
room_of s seeds e =
    let ok = accepted limits02 s seeds e in
    record { low = ok.ranges.w_low; high = ok.ranges.w_high; apart = ok.ranges.trc_low; gaps = ok.gaps; bursts = ok.room }

-- ---- the refusal

pub no_ticks : (s : Setting) → span_of s 0 ≡ Err OutOfRange
unfolding span_of span_refusal
no_ticks s = refl

pub refusal_from : (s : Setting) (x : ℕ) → 1 ≤ x → span_refusal s x ≡ setting_refusal limits02 s some_seeds
unfolding span_refusal
refusal_from s x h = rw (ne_eqb x 0 (omega arith))

pub seeds_play_no_part : SeedsPlayNoPart
unfolding delay_refusal
seeds_play_no_part s seeds x ok h = refusal_from s x h ∙ sym (delays.seeds_play_no_part limits02 s s.td seeds ok)

-- ---- the answer

accepted_answer : (s : Setting) (seeds : List ℕ) (x : ℕ) → 1 ≤ x → setting_refusal limits02 s seeds ≡ none → span_of s x ≡ Ok (span_bound s x)
unfolding span_of
accepted_answer s seeds x h e =
    let ok = (accepted limits02 s seeds e).seeds_ok in
    let free : span_refusal s x ≡ none = seeds_play_no_part s seeds x ok h ∙ e in
    rw free

pub answered : Answered
answered s seeds x h = (λ e. accepted_answer s seeds x h (widths.old_accepted s seeds e), accepted_answer s seeds x h)

-- where a bound is given, x is 1 or more and the bound is the formula
most_is : (s : Setting) (x most : ℕ) → span_of s x ≡ Ok most → (1 ≤ x) × (span_bound s x ≡ most)
unfolding span_of
most_is s x most e = go (passed (span_refusal s x)) e
  where
    from_one : (x : ℕ) → span_of s x ≡ Ok most → 1 ≤ x
    from_one zero e = let z = sym (no_ticks s) ∙ e in absurd cc
    from_one (suc x) e = omega arith

    go : (p : Result (Unit {0}) Refusal) → result_and p (Ok (span_bound s x)) ≡ Ok most → (1 ≤ x) × (span_bound s x ≡ most)
    go (Ok u) k = (from_one x e, (cc))
    go (Err why) k = absurd cc

pub never_more : NeverMore
never_more setting x most e w seeds m up cs bank row start =
    let is = most_is (setting_of setting) x most e in
    subst (λ n. times_activated bank row start x (openings_from setting seeds cs) ≤ n) is.1 (interface.spans_over w setting seeds m up cs bank row start x is.0)

-- ---- the bound against x

pub never_falls_lem : NeverFalls
unfolding span_bound
never_falls_lem s seeds e x y h =
    let ok = accepted limits02 s seeds e in
    let r1 = ok.ranges.trc_low in
    let free = free_grows s (le_trans {m = 2} (omega arith) (epoch_long ok)) x y h in
    le_trans (more_free (free_most s x) (free_most s y) s.trc s.td (x - 1) r1 ok.gaps free)
    (more_ticks (free_most s y) s.trc s.td (x - 1) (y - 1) r1 ok.ranges.td_low (omega arith))

pub one_tick : OneATick
one_tick s seeds e x h = one_a_tick s (accepted limits02 s seeds e).ranges.trc_low x h

pub windows : InWindows
windows s seeds e k k1 = in_windows limits02 s seeds (accepted limits02 s seeds e) k k1

pub one_window : InOneWindow
one_window s seeds e = in_one_window limits02 s seeds (accepted limits02 s seeds e)
