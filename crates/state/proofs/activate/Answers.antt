-- `activate` records the row in the history and counts it for the thread.
use mathlib.Core.Path.{ap, ◌∙◌}
use native.Mathlib.Omega.{arith}
use lib.ListN.{set}
use Rattle.head.specs.Head.{activated_head}
use Rattle.state.proofs.activate.Goals as goal

pub activated-requires : goal.activated-requires
activated-requires c =
    let r = c.requires.0 in
    (omega (arith, r.bank_in, r.bounds.ranges.banks_high), r.early, rw c.history_length-places.ensures r.memory.in_ring)

pub returns : goal.returns
returns c =
    let a = c.args in (
      c.activated.ensures ∙ ap (λ x. activated_head x a.h a.bank) c.history_length-places.ensures,
      c.«record».ensures.0,
      c.«record».ensures.1 ∙ ap (set a.rows.now a.h.next) c.row_word.ensures,
      c.activate.ensures,
    )
