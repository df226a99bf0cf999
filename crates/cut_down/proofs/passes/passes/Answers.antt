-- `passes`: the passes from the number at hand come to the result; the number is the measure.
use native.Mathlib.Omega.{arith}
use Rattle.rules.specs.Policy.{narrow}
use Rattle.cut_rules.specs.Cut.{differs_with}
use Rattle.cut_down.proofs.passes.Numbers.{start, below, more, done}
use Rattle.cut_down.proofs.passes.passes.Goals as goal

pub loop-kept-init : goal.loop-kept-init
loop-kept-init c =
    let a = c.args in
    (below a.n a.all c.requires.3, start (differs_with narrow a.bytes.now) a.n a.all c.requires.3)

pub returns-then-left-kept : goal.returns-then-left-kept
returns-then-left-kept c =
    let a = c.args in
    let i = c.loop-kept.invariant in
    done (differs_with narrow a.bytes.now) a.n c.loop-kept.kept c.pass-left.result i.0 c.pass-left.ensures.1 i.1 c.pass-left.ensures.0 c.if-left-kept.true

pub loop-kept-smaller : goal.loop-kept-smaller
loop-kept-smaller c = omega (arith, c.pass-left.ensures.1, c.if-left-kept.false)

pub loop-kept-preserved : goal.loop-kept-preserved
loop-kept-preserved c =
    let a = c.args in
    let i = c.loop-kept.invariant in (
      omega (arith, c.pass-left.ensures.1, i.0),
      more (differs_with narrow a.bytes.now) a.n c.loop-kept.kept c.pass-left.result i.0 c.pass-left.ensures.1 i.1 c.pass-left.ensures.0 c.if-left-kept.false,
    )
