-- `is_kept` reads bit i.
use mathlib.Core.Path.{sym}
use Rattle.cut_rules.proofs.selections.Words.{bits_stays}
use Rattle.cut_down.proofs.selection.is_kept.Goals as goal

pub returns : goal.returns
returns c = λ n h. sym (bits_stays n c.args.kept c.args.i h)
