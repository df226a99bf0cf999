-- `turn::clear_kind`. The loop's invariant: the cells of the kind in the groups passed are 0 and the others are as they were.
use native.Mathlib.Omega.{arith}
use Rattle.rules.proofs.Clearing.{cleared_all}
use Rattle.threads.proofs.turn.Turns.{kind_none, kind_more}
use borrow.Author.Rules.{rules}
use Rattle.threads.proofs.turn.clear_kind.Goals as goal

pub loop-i-init : goal.loop-i-init
loop-i-init c = kind_none c.args.kind c.args.groups c.args.threads.now

pub loop-i-preserved : goal.loop-i-preserved
loop-i-preserved c = kind_more c.loop-i.invariant (search rules) (omega arith) (search rules)

pub returns : goal.returns
returns c = cleared_all c.loop-i.invariant (omega arith)
