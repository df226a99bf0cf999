-- `contents::seeds`. The loop's invariant: the seeds passed are those of the block.
use mathlib.Core.Path.{refl}
use native.Mathlib.Omega.{arith}
use lib.ListN.{length-set}
use Rattle.log_format.specs.Contents.{seeds_in}
use Rattle.log_format.proofs.Numbers.{halves_more, halves_all}
use Rattle.log_read.proofs.contents.seeds.Goals as goal

pub loop-i-init : goal.loop-i-init
loop-i-init c = (refl, refl)

pub loop-i-preserved : goal.loop-i-preserved
loop-i-preserved c = (
  simp length-set c.loop-i.invariant.0,
  halves_more c.args.block.now c.loop-i.seed-items 44 64 c.loop-i.i c.word16.result (omega arith) c.loop-i.invariant.0 c.word16.ensures.0 c.loop-i.invariant.1,
)

pub returns : goal.returns
unfolding seeds_in
returns c =
    halves_all c.args.block.now c.loop-i.seed-items 44 64 c.loop-i.i (omega arith) c.loop-i.invariant.0 c.loop-i.invariant.1
