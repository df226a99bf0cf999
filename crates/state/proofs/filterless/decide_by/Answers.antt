-- `decide_by` decides from what it reads.
use Rattle.state.proofs.filterless.Laws.{view_small, decided}
use Rattle.state.proofs.filterless.decide_by.Goals as goal

pub decide-requires : goal.decide-requires
decide-requires c =
    let a = c.args in
    let p = c.requires.0 in
    let v = view_small a.s a.active a.other a.h a.ticks.now a.rows.now a.threads.now a.bank a.thread a.row c.look-v.result p c.look-v.ensures in
    (p.bounds.ranges.trc_high, p.bounds.ranges.tfaw_high, v.0, v.1)

pub returns : goal.returns
returns c =
    let a = c.args in
    decided a.s a.active a.other a.h a.ticks.now a.rows.now a.threads.now a.bank a.thread a.row c.look-v.result c.decide.result c.look-v.ensures c.decide.ensures
