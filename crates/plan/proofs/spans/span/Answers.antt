-- `spans::span`: x 0, a refusal of the setting, or the bound, in the order of the definition.
use mathlib.Core.Path.{◌≡◌, sym, ap, ◌∙◌}
use Prim.Native.Nat.{ℕ, ◌≤◌}
use native.Mathlib.Omega.{arith}
use Rattle.rules.specs.declared.Setting.{Setting}
use Rattle.rules.specs.declared.Limits.{Limits}
use Rattle.refused.specs.Passed.{passed}
use Rattle.refused.specs.declared.Refusal.{Refusal}
use Rattle.std.specs.Prelude.{Result, Ok}
use Rattle.std.specs.Result.{result_and}
use Rattle.rules.specs.Claims.{span_bound}
use Rattle.refused.proofs.Laws.{passed_ok}
use Rattle.plan_rules.specs.delays.Delays.{some_seeds, delay_refusal}
use Rattle.plan_rules.specs.spans.Spans.{span_refusal, span_of}
use Rattle.plan_rules.proofs.spans.Answer.{room_of, no_ticks, refusal_from}
use borrow.Author.Rules.{rules}
use Rattle.rules.specs.Policy.{limits02}
use Rattle.plan.proofs.spans.span.Goals as goal

pub returns-then-x-eq0 : goal.returns-then-x-eq0
returns-then-x-eq0 c = sym (ap (span_of c.args.s) c.if-x-eq0.true ∙ no_ticks c.args.s)

pub delay_refusal-requires : goal.delay_refusal-requires
delay_refusal-requires c = rw c.wide_limits.ensures (omega arith, omega arith)

-- what is tested, where x is not 0
tested : (s : Setting) (x : ℕ) (m : Limits) → 1 ≤ x → m ≡ limits02 → delay_refusal m s s.td ≡ span_refusal s x
unfolding delay_refusal
tested s x m h e = ap (λ (n : Limits). delay_refusal n s s.td) e ∙ sym (refusal_from s x h)

pub returns-in-Err : goal.returns-in-Err
unfolding span_of
returns-in-Err c =
    let some : 1 ≤ c.args.x = let left = c.if-x-eq0.false in search rules in
    let e = ap passed (tested c.args.s c.args.x _ some c.wide_limits.ensures) in
    ap (λ (p : Result (Unit {0}) Refusal). result_and p (Ok (span_bound c.args.s c.args.x))) (c.in-Err.ensures ∙ e)

pub span_bound-requires : goal.span_bound-requires
unfolding delay_refusal
span_bound-requires c =
    let some : 1 ≤ c.args.x = let left = c.if-x-eq0.false in search rules in
    let none = passed_ok _ _ (sym c.in-Ok.ensures) in
    (room_of c.args.s some_seeds (rw c.wide_limits.ensures at none), some)

pub returns-in-Ok : goal.returns-in-Ok
unfolding span_of
returns-in-Ok c =
    let some : 1 ≤ c.args.x = let left = c.if-x-eq0.false in search rules in
    let e = ap passed (tested c.args.s c.args.x _ some c.wide_limits.ensures) in
    rw c.span_bound.ensures (ap (λ (p : Result (Unit {0}) Refusal). result_and p (Ok (span_bound c.args.s c.args.x))) (c.in-Ok.ensures ∙ e))
