-- `pairs::pairs`: what is known of the pairs so far.
use lib.ListN.{length}
use Rattle.probes.proofs.pairs.Pass.{Passed}
use Rattle.probes.proofs.pairs.pairs.Given as goal

abbrev pub invariant-loop-first : goal.invariant-loop-first
invariant-loop-first l = Passed l.x-inside.ticks.now l.y-inside.ticks.now (length l.yielded) l.greatest l.least
