-- `put_seeds`. The loop's invariant: the numbers passed are stored.
use mathlib.Core.Path.{refl, ◌∙◌}
use native.Mathlib.Omega.{arith}
use Rattle.log_format.proofs.Stores.{storing_more, storing_done}
use Rattle.log_writer.proofs.start.put_seeds.Goals as goal

pub loop-i-init : goal.loop-i-init
loop-i-init c = (omega arith, refl)

pub loop-i-preserved : goal.loop-i-preserved
loop-i-preserved c =
    storing_more c.args.block.now c.loop-i.block c.put.new.block c.args.seeds.now 44 2 64 c.loop-i.i (omega arith) (c.put.ensures ∙ rw c.from.ensures) c.loop-i.invariant

pub returns : goal.returns
returns c = storing_done c.args.block.now c.loop-i.block c.args.seeds.now 44 2 64 c.loop-i.i (omega arith) c.loop-i.invariant
