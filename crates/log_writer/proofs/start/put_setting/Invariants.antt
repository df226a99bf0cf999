-- `put_setting`. The loop's invariant: the numbers passed are stored.
use Rattle.log_format.proofs.Stores.{Storing}
use Rattle.log_writer.proofs.start.put_setting.Given as goal

abbrev pub invariant-loop-i : goal.invariant-loop-i
invariant-loop-i l = Storing l.initial.block l.block l.setting 8 4 9 l.i
