-- `fill` makes reads until one is the last.
use Prim.Native.Nat.{◌-◌, ◌<◌}
use mathlib.Core.Path.{◌≡◌}
use lib.ListN.{length}
use Rattle.std.specs.declared.ops.ControlFlow.TheVariants.{Continue}
use Rattle.check_log.proofs.input.Given.{Reads}
use Rattle.check_log.proofs.input.fill.Given as goal

abbrev pub invariant-loop-bytes : goal.invariant-loop-bytes
invariant-loop-bytes l = (l.done < length l.block) × (length l.block ≡ length l.initial.block) × Reads (length l.initial.block) (Continue l.done)

abbrev pub decreases-loop-bytes : goal.decreases-loop-bytes
decreases-loop-bytes l = length l.block - l.done
