-- `probes::decide`: by the cases of the closed form.
use mathlib.Core.Path.{sym, ap, ◌∙◌}
use Rattle.probe_rules.specs.Probes.{decided}
use Rattle.probe_rules.proofs.Answers.{decided_fit}
use Rattle.probes.proofs.Laws.{far, wide, near_enough, by_closed}
use Rattle.probes.proofs.decide.Goals as goal

pub returns-then-number-gt2000 : goal.returns-then-number-gt2000
returns-then-number-gt2000 c =
    let s = c.args.spread in
    ap decided (far c.args.jitter s.greatest s.least c.saturating_sub-number.result c.saturating_sub-number.ensures c.if-number-gt2000.true)
    ∙ by_closed c.args.jitter s.greatest s.least s.alike c.if-not-spread.false

pub returns-then-number-spread : goal.returns-then-number-spread
returns-then-number-spread c =
    let s = c.args.spread in
    ap decided (wide c.args.jitter s.greatest s.least c.saturating_sub-number.result c.saturating_sub-number.ensures c.if-number-gt2000.false c.if-number-spread.true)
    ∙ by_closed c.args.jitter s.greatest s.least s.alike c.if-not-spread.false

pub returns : goal.returns
returns c =
    let s = c.args.spread in
    sym (decided_fit c.saturating_sub-number.result c.if-number-gt2000.false)
    ∙ ap decided (near_enough c.args.jitter s.greatest s.least c.saturating_sub-number.result c.saturating_sub-number.ensures c.if-number-gt2000.false c.if-number-spread.false)
    ∙ by_closed c.args.jitter s.greatest s.least s.alike c.if-not-spread.false
