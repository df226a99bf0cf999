-- `main` prints the text of the report of `run`.
use mathlib.Core.Path.{ap, ◌∙◌}
use Rattle.report.specs.Text.{text_of}
use Rattle.check_log.proofs.main.Goals as goal

pub print-requires : goal.print-requires
print-requires c = (c.run-r.ensures.0, c.lay-n.ensures.1 ∙ ap text_of c.run-r.ensures.1)
