-- `pairs::look`: by what the pass over the pairs found, and then by the ticks of each list that have no partner.
use mathlib.Core.Path.{refl, sym, ap₂, ◌∙◌}
use lib.ListN.{length}
use Rattle.probe_rules.specs.Probes.{lent}
use Rattle.probes.specs.Pairs.{pairs_of, paired}
use Rattle.probes.proofs.pairs.All.{rest_is, late_pairs, late_first, late_second, spread_all}
use Rattle.probes.proofs.pairs.look.Goals as goal

pub returns-in_err-spread : goal.returns-in_err-spread
returns-in_err-spread c = rw c.from_residual.ensures (late_pairs c.args.x.now c.args.y.now c.in_err-spread.ensures)

pub returns-then-not-all_on_time : goal.returns-then-not-all_on_time
returns-then-not-all_on_time c =
    let ts = c.x.inside.ticks.now in
    let us = c.y.inside.ticks.now in
    let x = lent ts c.x.inside.rows.now (length ts) in
    let y = lent us c.y.inside.rows.now (length us) in
    rw (← c.x.view_is, ← c.y.view_is)
    (late_first x y refl refl (sym (rest_is ts c.min-n.result (paired x y) c.all_on_time.result c.min-n.ensures c.all_on_time.ensures) ∙ c.if-not-all_on_time.true))

pub returns-then-not-all_on_time-2 : goal.returns-then-not-all_on_time-2
returns-then-not-all_on_time-2 c =
    let ts = c.x.inside.ticks.now in
    let us = c.y.inside.ticks.now in
    let x = lent ts c.x.inside.rows.now (length ts) in
    let y = lent us c.y.inside.rows.now (length us) in
    rw (← c.x.view_is, ← c.y.view_is)
    (late_second x y refl refl (sym (rest_is ts c.min-n.result (paired x y) c.all_on_time.result c.min-n.ensures c.all_on_time.ensures) ∙ c.if-not-all_on_time.false)
    (sym (rest_is us c.min-n.result (paired x y) c.all_on_time-2.result c.min-n.ensures c.all_on_time-2.ensures) ∙ c.if-not-all_on_time-2.true))

pub returns : goal.returns
returns c =
    let ts = c.x.inside.ticks.now in
    let us = c.y.inside.ticks.now in
    let x = lent ts c.x.inside.rows.now (length ts) in
    let y = lent us c.y.inside.rows.now (length us) in
    rw (← c.x.view_is, ← c.y.view_is)
    (spread_all x y refl refl (sym (rest_is ts c.min-n.result (paired x y) c.all_on_time.result c.min-n.ensures c.all_on_time.ensures) ∙ c.if-not-all_on_time.false)
    (sym (rest_is us c.min-n.result (paired x y) c.all_on_time-2.result c.min-n.ensures c.all_on_time-2.ensures) ∙ c.if-not-all_on_time-2.false)
    (c.in_ok-spread.ensures ∙ ap₂ pairs_of (sym c.x.view_is) (sym c.y.view_is)))
