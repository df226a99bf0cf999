-- `run`: each block that goes on is counted, and the count stays within 32 bits; some bytes stand for the blocks that were read.
use Prim.Native.Nat.{◌-◌, ◌^◌}
use mathlib.Core.Path.{◌≡◌}
use lib.ListN.{length}
use Rattle.judge.specs.Blocks.{read_in, Carried, Ready}
use Rattle.check_log.proofs.Fills.{SoFar}
use Rattle.check_log.proofs.run.Given as goal

abbrev pub invariant-loop-next : goal.invariant-loop-next
invariant-loop-next l =
    (512 ≡ length l.block)
    × Ready (read_in l.x l.m)
    × SoFar (read_in l.x l.m)
    × Carried l.x

abbrev pub decreases-loop-next : goal.decreases-loop-next
decreases-loop-next l = 2 ^ 32 - l.x.progress.blocks
