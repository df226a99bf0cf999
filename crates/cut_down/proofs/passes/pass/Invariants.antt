-- `pass`: the first i records have been tried.
use mathlib.Core.Path.{◌≡◌}
use Prim.Native.Nat.{◌≤◌}
use Rattle.rules.specs.Policy.{narrow}
use Rattle.cut_rules.specs.selections.Selections.{tried_from, bits}
use Rattle.cut_rules.specs.Cut.{differs_with}
use Rattle.cut_down.proofs.passes.pass.Given as goal

abbrev pub invariant-loop-i : goal.invariant-loop-i
invariant-loop-i l = (l.left ≤ l.kept) × (bits l.n l.left ≡ tried_from (differs_with narrow l.bytes) 0 l.i (bits l.n l.kept))
