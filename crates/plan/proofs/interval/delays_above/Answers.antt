-- `interval::delays_above`: the tests are those of the definition, in its order.
use mathlib.Core.Path.{◌≡◌, sym, ap, ◌∙◌}
use Prim.Native.Nat.{ℕ, max}
use borrow.Author.Tests.{le-leb, lt-leb, lt-ltb, le-ltb}
use Rattle.rules.specs.declared.Setting.{Setting}
use Rattle.plan_rules.specs.delays.Answer.{smallest_delay, least_delay, delays_above}
use borrow.Author.Rules.{rules}
use Rattle.plan.proofs.Passing.{passed_up}
use Rattle.plan.proofs.interval.delays_above.Goals as goal

-- the least delay, from the smallest with B at most L
least_is : (s : Setting) (smallest least : ℕ) → least ≡ max s.trc smallest → smallest ≡ smallest_delay s → least ≡ least_delay s
unfolding least_delay
least_is s smallest least e f = e ∙ ap (max s.trc) f

pub delays_within-requires : goal.delays_within-requires
delays_within-requires c =
    let least = least_is c.args.s c.smallest_delay-smallest.result c.max-least.result c.max-least.ensures c.smallest_delay-smallest.ensures in
    (search rules, least, c.greatest_delay-greatest.ensures)

pub returns-then-least-greatest : goal.returns-then-least-greatest
unfolding delays_above
returns-then-least-greatest c =
    let least = least_is c.args.s c.smallest_delay-smallest.result c.max-least.result c.max-least.ensures c.smallest_delay-smallest.ensures in
    simp (← least, ← c.greatest_delay-greatest.ensures, le-leb _ _ c.if-least-greatest.true, c.delays_within.ensures)

pub returns-else-smallest-le536870912 : goal.returns-else-smallest-le536870912
unfolding delays_above
returns-else-smallest-le536870912 c =
    let least = least_is c.args.s c.smallest_delay-smallest.result c.max-least.result c.max-least.ensures c.smallest_delay-smallest.ensures in
    simp (← least, ← c.greatest_delay-greatest.ensures, lt-leb _ _ c.if-least-greatest.false, ← c.smallest_delay-smallest.ensures, lt-ltb _ _ c.if-smallest-le536870912.false)

pub returns-in_err-delay_refusal : goal.returns-in_err-delay_refusal
unfolding delays_above
returns-in_err-delay_refusal c =
    let least = least_is c.args.s c.smallest_delay-smallest.result c.max-least.result c.max-least.ensures c.smallest_delay-smallest.ensures in
    simp (← least, ← c.greatest_delay-greatest.ensures, lt-leb _ _ c.if-least-greatest.false, ← c.smallest_delay-smallest.ensures, le-ltb _ _ c.if-smallest-le536870912.true)
    (passed_up _ _ _ _ (sym c.delay_refusal.ensures ∙ c.in_err-delay_refusal.was) c.from_residual.ensures.1)

pub returns-in_ok-delay_refusal : goal.returns-in_ok-delay_refusal
unfolding delays_above
returns-in_ok-delay_refusal c =
    let least = least_is c.args.s c.smallest_delay-smallest.result c.max-least.result c.max-least.ensures c.smallest_delay-smallest.ensures in
    simp (← least, ← c.greatest_delay-greatest.ensures, lt-leb _ _ c.if-least-greatest.false, ← c.smallest_delay-smallest.ensures, le-ltb _ _ c.if-smallest-le536870912.true, ← c.in_ok-delay_refusal.ensures)
