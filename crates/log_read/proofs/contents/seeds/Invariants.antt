-- `contents::seeds`. The loop's invariant: the seeds passed are those of the block.
use mathlib.Core.Path.{◌≡◌}
use lib.ListN.{length, take}
use Rattle.log_format.specs.Contents.{halves}
use Rattle.log_read.proofs.contents.seeds.Given as goal

abbrev pub invariant-loop-i : goal.invariant-loop-i
invariant-loop-i l = (64 ≡ length l.seed-items) × (take l.i l.seed-items ≡ take l.i (halves l.block 44 64))
