-- `differences` meets its contract. The invariant: while the or is small, the differences passed wrapped at most once.
use Rattle.std.proofs.Common.{◌^◌, ◌<◌}
use Rattle.history.proofs.runs.Near.{Near}
use Rattle.history.proofs.runs.differences.Given as goal

abbrev pub invariant-loop-k : goal.invariant-loop-k
invariant-loop-k l = l.all < 2 ^ 58 → Near l.ticks l.i l.k
