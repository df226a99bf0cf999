-- `is_record`: the tests of the definition, in its order.
use Rattle.log_format.specs.Blocks.{record_laid_out}
use Rattle.log_read.proofs.records.is_record.Goals as goal

pub returns : goal.returns
unfolding record_laid_out
returns c = simp (c.are_zero.ensures, c.byte.ensures.0, c.byte-2.ensures.0)
