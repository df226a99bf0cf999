-- `print_line`: the least delay of an answer is accepted, so its costs can be asked for.
use mathlib.Core.Path.{sym, ◌∙◌}
use Rattle.plan.proofs.Lasting.{least_accepted}
use Rattle.plan_settings.proofs.table.print_line.Goals as goal

pub costs-c-requires : goal.costs-c-requires
costs-c-requires g c =
    least_accepted _ _ _ (sym c.delays.ensures ∙ c.in-Ok.is)
