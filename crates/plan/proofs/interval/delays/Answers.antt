-- `interval::delays`: the tests are those of the definition, in its order; past the first two the fields are in range.
use native.Mathlib.Omega.{arith}
use mathlib.Core.Path.{sym, ◌∙◌}
use borrow.Author.Tests.{le-leb, lt-leb}
use Rattle.rules.specs.declared.Setting.{Setting}
use Rattle.rules.specs.declared.Limits.{Limits}
use Rattle.rules.specs.Tested.{Ranges}
use Rattle.plan_rules.specs.delays.Delays.{with_delay}
use Rattle.plan_rules.proofs.delays.Shape.{Other, other_ranges, other_room}
use Rattle.plan.proofs.Passing.{passed_up, delays_behind, other}
use Rattle.plan.proofs.interval.delays.Goals as goal

pub returns-in_err-early_refusal : goal.returns-in_err-early_refusal
returns-in_err-early_refusal c =
    passed_up _ _ _ _ (sym c.early_refusal.ensures ∙ c.in_err-early_refusal.was) c.from_residual.ensures.1 ∙ sym (delays_behind c.args.m c.args.s)

pub overflow_mul-s : goal.overflow_mul-s
overflow_mul-s c =
    let ok : Other c.args.m c.args.s = other c.args.m c.args.s _ (sym c.early_refusal.ensures ∙ c.in_ok-early_refusal.was) in
    let k : Ranges c.args.m (with_delay c.args.s 1) = other_ranges c.args.m c.args.s ok in
    omega arith

pub returns-then-s : goal.returns-then-s
returns-then-s c =
    simp (delays_behind, ← c.early_refusal.ensures, c.in_ok-early_refusal.was, le-leb _ _ c.if-s.true)

pub delays_above-requires : goal.delays_above-requires
delays_above-requires c =
    let m : Limits = c.args.m in
    let s : Setting = c.args.s in
    let ok : Other m s = other m s _ (sym c.early_refusal.ensures ∙ c.in_ok-early_refusal.was) in
    let k : Ranges m (with_delay s 1) = other_ranges m s ok in
    (c.requires, omega arith, k.w_high, other_room m s ok, c.if-s.false, omega arith, k.tfaw_high)

pub returns : goal.returns
returns c =
    simp (delays_behind, ← c.early_refusal.ensures, c.in_ok-early_refusal.was, lt-leb _ _ c.if-s.false, c.delays_above.ensures)
