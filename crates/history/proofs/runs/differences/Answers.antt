-- `differences` meets its contract. The invariant: while the or is small, the differences passed wrapped at most once.
use Rattle.std.proofs.Common.{◌≡◌, arith}
use Rattle.history.proofs.runs.Near.{near_none, near_more, near_all}
use Rattle.history.proofs.runs.differences.Goals as goal

pub loop-k-init : goal.loop-k-init
loop-k-init c = λ z. near_none c.args.ticks.now c.args.i

pub loop-k-preserved : goal.loop-k-preserved
loop-k-preserved c = near_more c.args.ticks.now c.args.i c.loop-k.k c.loop-k.all c.loop-k.invariant c.type_inv.ticks

pub returns : goal.returns
returns c =
    let a = c.args in
    let z : c.loop-k.k ≡ a.m = omega arith in
    λ h. near_all a.ticks.now a.i a.m c.requires.1 c.requires.2 (rw z at (c.loop-k.invariant h))
