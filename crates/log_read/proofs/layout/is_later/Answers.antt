-- `is_later`: the count is from 1 to 20, and then the tests of the definition, in its order.
use mathlib.Core.Path.{◌≡◌}
use mathlib.Core.Bool.{true, false}
use Rattle.std.proofs.Common.{rules}
use Rattle.rules.specs.Cells.{between}
use Rattle.log_format.specs.Blocks.{records_laid_out}
use Rattle.log_read.proofs.layout.is_later.Goals as goal

pub returns-then-not-contains : goal.returns-then-not-contains
unfolding records_laid_out
returns-then-not-contains c =
    let t : between 1 20 c.byte.result ≡ false = search rules in
    simp (← c.byte.ensures.0, t)

pub returns : goal.returns
unfolding records_laid_out
returns c =
    let t : between 1 20 c.byte.result ≡ true = search rules in
    simp (← c.byte.ensures.0, t, c.are_records.ensures, c.are_zero.ensures)
