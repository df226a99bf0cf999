-- `print_powers`: the threshold doubles up to the last one.
use Prim.Native.Nat.{◌-◌, ◌^◌, ◌≤◌}
use Rattle.plan_settings.proofs.table.print_powers.Given as goal

abbrev pub invariant-loop-n : goal.invariant-loop-n
invariant-loop-n g l = (1 ≤ l.n) × (l.n ≤ 2 ^ 21)

abbrev pub decreases-loop-n : goal.decreases-loop-n
decreases-loop-n g l = l.last - l.n
