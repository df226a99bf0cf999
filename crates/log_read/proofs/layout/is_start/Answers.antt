-- `is_start`: the tests of the definition, in its order.
use Rattle.log_format.specs.Blocks.{start_laid_out}
use Rattle.log_read.proofs.layout.is_start.Goals as goal

pub returns : goal.returns
unfolding start_laid_out
returns c = simp (c.are_zero.ensures, c.is_known.ensures, c.byte-2.ensures.0, c.byte.ensures.0)
