-- `place_before` meets its contract: the two returns are the two cases of `back` where p is the next place.
use Rattle.std.proofs.Common.{sym, ◌∙◌, arith}
use Rattle.rules.proofs.Ring.{back_new, back_old}
use Rattle.history.proofs.cells.place_before.Goals as goal

pub returns-then-p-eq0 : goal.returns-then-p-eq0
returns-then-p-eq0 c =
    let a = c.args in
    ((omega arith) ∙ sym (back_old a.h a.p (omega arith) 0 (omega arith)), omega arith)

pub returns-else-p-eq0 : goal.returns-else-p-eq0
returns-else-p-eq0 c =
    let a = c.args in
    ((omega arith) ∙ sym (back_new a.h a.p (omega arith) 0 (omega arith)), omega arith)
