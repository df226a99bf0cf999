-- `total`: bank by bank the sum of the thread's cells.
use Rattle.std.proofs.Common.{◌≡◌, ◌*◌, ◌≤◌}
use Rattle.rules.specs.Cells.{sum_below}
use Rattle.rules.specs.Quota.{in_flight_here}
use Rattle.threads.proofs.total.total.Given as goal

abbrev pub invariant-loop-bank : goal.invariant-loop-bank
invariant-loop-bank l = record {
  small : l.sum ≤ l.bank * 4294967295;
  is : l.sum ≡ sum_below l.bank (λ b. in_flight_here l.s l.threads b l.thread);
}
