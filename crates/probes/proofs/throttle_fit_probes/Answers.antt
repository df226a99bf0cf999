-- `probes::throttle_fit_probes`: the number of an offset, in the verdict.
use mathlib.Core.Path.{sym, ap, ◌∙◌}
use Rattle.std.specs.Prelude.{Ok}
use Rattle.probe_rules.specs.Probes.{lent}
use Rattle.probes.proofs.Laws.{fit_most}
use Rattle.probes.proofs.throttle_fit_probes.Goals as goal

pub twos_complement-requires : goal.twos_complement-requires
twos_complement-requires c =
    let a = c.args in
    fit_most (lent a.xticks.now a.xrows.now a.xcount) (lent a.yticks.now a.yrows.now a.ycount) a.jitter _ (ap Ok (sym c.in-Ok-Some.field-0-is) ∙ c.in-Ok-Some.ensures)
