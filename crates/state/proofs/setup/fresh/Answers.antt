-- `fresh` clears the used parts, buffer by buffer.
use mathlib.Core.Path.{refl}
use native.Mathlib.Omega.{arith}
use Rattle.rules.specs.State.{fresh_head}
use Rattle.history.proofs.Filled.{filled_first, filled_from}
use Rattle.state.proofs.setup.fresh.Goals as goal

pub returns : goal.returns
unfolding fresh_head
returns c =
    let threads = c.fill.ensures.after (λ y e. e) in
    rw (c.clear.ensures.0, c.clear.ensures.1, c.history_length.ensures)
    (refl, refl, refl, grind (arith, filled_first, filled_from))
