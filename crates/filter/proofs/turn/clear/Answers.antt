-- `turn::clear` meets its contract: the run from cell 0 on is the used cells.
use Rattle.std.proofs.Common.{map, ◌∙◌}
use Rattle.filter.proofs.turn.Clearing.{run_used}
use Rattle.filter.proofs.turn.clear.Goals as goal

pub returns : goal.returns
returns g c =
    let a = c.args in
    c.clear_run.ensures ∙ run_used a.used (map g.C.Counter.value a.counters.now)
