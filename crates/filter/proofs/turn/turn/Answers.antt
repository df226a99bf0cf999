-- `turn::turn` meets its contract, by the three cases of the clock's move.
use Rattle.std.proofs.Common.{map, ◌*◌, ◌∙◌, arith}
use Rattle.rules.proofs.Clock.{counters_none}
use Rattle.filter.proofs.turn.Clearing.{turned_one, turned_both}
use Rattle.filter.proofs.turn.turn.Goals as goal

pub returns-then-to-from : goal.returns-then-to-from
returns-then-to-from g c =
    let a = c.args in
    counters_none (a.banks * 2048) a.from a.to (map g.C.Counter.value a.counters.now) c.if-to-from.true

pub returns-then-to-from-2 : goal.returns-then-to-from-2
returns-then-to-from-2 g c =
    let a = c.args in
    c.clear_filter.ensures ∙ turned_one a.banks a.from a.to (map g.C.Counter.value a.counters.now) c.if-to-from-2.true

pub returns-else-to-from-2 : goal.returns-else-to-from-2
returns-else-to-from-2 g c =
    let a = c.args in
    let n = c.if-to-from-2.false in
    let m = c.if-to-from.false in
    c.clear.ensures ∙ turned_both (a.banks * 2048) a.from a.to (map g.C.Counter.value a.counters.now) (omega arith)
