-- `plan::last_threshold`. The loop's invariant: no threshold above n has a delay.
use Rattle.plan.proofs.Lasting.{NoneAfter}
use Rattle.plan.proofs.last_threshold.Given as goal

abbrev pub invariant-loop-n : goal.invariant-loop-n
invariant-loop-n l = NoneAfter l.m l.s l.n
