-- `pass`: the first i records have been tried.
use native.Mathlib.Omega.{arith}
use Rattle.rules.specs.Policy.{narrow}
use Rattle.cut_rules.specs.Cut.{differs_with}
use Rattle.cut_down.proofs.passes.Numbers.{from_none, from_next, from_all}
use Rattle.cut_down.proofs.passes.pass.Goals as goal

pub loop-i-init : goal.loop-i-init
loop-i-init c = let a = c.args in (omega arith, from_none (differs_with narrow a.bytes.now) a.n a.kept)

pub loop-i-preserved : goal.loop-i-preserved
loop-i-preserved c =
    let a = c.args in
    let i = c.loop-i.invariant in (
      omega (arith, c.attempt-left.ensures.1, i.0),
      from_next (differs_with narrow a.bytes.now) a.n a.kept c.loop-i.left c.attempt-left.result c.loop-i.i i.1 c.attempt-left.ensures.0,
    )

pub returns : goal.returns
returns c =
    let a = c.args in
    (from_all (differs_with narrow a.bytes.now) a.n a.kept c.loop-i.left c.loop-i.i (omega arith) c.loop-i.invariant.1, c.loop-i.invariant.0)
