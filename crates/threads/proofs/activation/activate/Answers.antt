-- `activation::activate`: the three cells are the thread's in that bank.
use Rattle.threads.proofs.activation.Activated.{activated_plain, activated_black}
use Rattle.threads.proofs.activation.activate.Goals as goal

pub returns-then-black : goal.returns-then-black
returns-then-black c =
    let a = c.args in
    rw c.if-black.true
    (activated_black a.s a.threads.now a.bank a.thread c.cell-at.result c.cell-at.ensures.0 c.raise.result c.raise-then-black.result c.raise.ensures c.raise-then-black.ensures)

pub returns-else-black : goal.returns-else-black
returns-else-black c =
    let a = c.args in
    rw c.if-black.false (activated_plain a.s a.threads.now a.bank a.thread c.cell-at.result c.cell-at.ensures.0)
