-- `passes`: the passes from the number at hand come to the result; the number is the measure.
use Prim.Native.Nat.{◌^◌, ◌<◌}
use Rattle.rules.specs.Policy.{narrow}
use Rattle.cut_rules.specs.selections.Selections.{bits}
use Rattle.cut_rules.proofs.selections.Passes.{Settles}
use Rattle.cut_rules.specs.Cut.{differs_with}
use Rattle.cut_down.proofs.passes.passes.Given as goal

abbrev pub invariant-loop-kept : goal.invariant-loop-kept
invariant-loop-kept l = (l.kept < 2 ^ l.n) × Settles (differs_with narrow l.bytes) l.n (bits l.n l.kept)

abbrev pub decreases-loop-kept : goal.decreases-loop-kept
decreases-loop-kept l = l.kept
