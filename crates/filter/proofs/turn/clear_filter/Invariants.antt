-- `turn::clear_filter` meets its contract. The loop has cleared the filter in the first b banks.
use Rattle.std.proofs.Common.{map}
use Rattle.rules.proofs.Clearing.{Cleared}
use Rattle.filter.proofs.turn.Clearing.{banks_of}
use Rattle.filter.proofs.turn.clear_filter.Given as goal

abbrev pub invariant-loop-b : goal.invariant-loop-b
invariant-loop-b g l = let v = g.C.Counter.value in Cleared (banks_of l.f) l.banks (map v l.initial.counters) l.b (map v l.counters)
