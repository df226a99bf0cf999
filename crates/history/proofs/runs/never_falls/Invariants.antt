-- `never_falls` meets its contract, block by block. The invariant: the blocks passed do not fall.
use Rattle.std.proofs.Common.{◌*◌, T}
use Rattle.history.specs.Runs.{never_falls}
use Rattle.history.proofs.runs.never_falls.Given as goal

abbrev pub invariant-loop-b : goal.invariant-loop-b
invariant-loop-b l = T (never_falls l.ticks l.i (64 * l.b))
