-- `clear` meets its contract: the first h cells of both buffers are filled with 0.
use Rattle.std.proofs.Common.{arith}
use Rattle.history.proofs.Filled.{filled_first, filled_from}
use Rattle.history.proofs.cells.clear.Goals as goal

pub returns : goal.returns
returns c =
    let ticks = c.fill.ensures.after (λ y e. e) in
    let rows = c.fill-2.ensures.after (λ y e. e) in
    (grind (arith, filled_first, filled_from), grind (arith, filled_first, filled_from))
