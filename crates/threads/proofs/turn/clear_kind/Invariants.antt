-- `turn::clear_kind`. The loop's invariant: the cells of the kind in the groups passed are 0 and the others are as they were.
use Rattle.rules.proofs.Clearing.{Cleared}
use Rattle.threads.specs.Kinds.{kind_below}
use Rattle.threads.proofs.turn.clear_kind.Given as goal

abbrev pub invariant-loop-i : goal.invariant-loop-i
invariant-loop-i l = Cleared (kind_below l.kind) l.groups l.initial.threads l.i l.threads
