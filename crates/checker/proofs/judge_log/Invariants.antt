-- `judge_log` goes over the blocks of a log up to the first event.
use Prim.Native.Nat.{◌/◌, ◌%◌}
use lib.Dec.{eqb}
use lib.ListN.{length}
use Rattle.judge.specs.Blocks.{read_in, Carried}
use Rattle.checker.proofs.Logs.{Through}
use Rattle.checker.proofs.judge_log.Given as goal

abbrev pub invariant-loop-block : goal.invariant-loop-block
invariant-loop-block l =
    Through l.bytes (length l.bytes / 512) (eqb (length l.bytes % 512) 0) l.block-index (read_in l.x l.m)
    × Carried l.x
