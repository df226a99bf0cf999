-- `later` goes over the blocks after block 0 up to the first refusal.
use Prim.Native.Nat.{◌%◌}
use lib.Dec.{eqb}
use lib.ListN.{length}
use Rattle.cut_down.proofs.blocks.Through.{Through}
use Rattle.cut_down.proofs.blocks.later.Given as goal

abbrev pub invariant-loop-b : goal.invariant-loop-b
invariant-loop-b l = Through l.bytes l.n (eqb (length l.bytes % 512) 0) l.b l.before l.records
