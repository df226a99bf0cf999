-- `turn::turn`: no epoch, one epoch, or two and more have passed.
use Prim.Native.Nat.{◌/◌}
use mathlib.Core.Path.{ap, ◌∙◌}
use native.Mathlib.Omega.{arith}
use Rattle.rules.specs.Cells.{clear_cells}
use Rattle.threads.specs.Kinds.{kind_below}
use Rattle.threads.proofs.turn.Turns.{turned_none, turned_one, turned_both}
use Rattle.threads.proofs.turn.turn.Goals as goal

pub returns-then-to-from : goal.returns-then-to-from
returns-then-to-from c = turned_none c.args.used c.args.from c.args.to c.args.threads.now c.if-to-from.true

pub returns-then-next-to : goal.returns-then-next-to
returns-then-next-to c =
    let a = c.args in
    c.clear_kind-then-next-to.ensures ∙ ap (clear_cells (kind_below 1 (a.used / 3))) c.clear_kind.ensures
    ∙ turned_both a.used a.from a.to a.threads.now (a.used / 3) (omega arith) c.if-next-to.true

pub returns : goal.returns
returns c =
    let a = c.args in
    c.clear_kind-2.ensures ∙ turned_one a.used a.from a.to a.threads.now (a.used / 3) (omega arith) (omega arith)
