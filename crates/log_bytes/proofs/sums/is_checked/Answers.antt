-- `is_checked`: the remainders of the two sums against the numbers at the end of the block.
use Rattle.log_format.specs.Blocks.{checked}
use Rattle.log_bytes.proofs.sums.is_checked.Goals as goal

pub returns : goal.returns
unfolding checked
returns c = simp (c.word16.ensures.0, c.word16-2.ensures.0, c.from-plain.ensures, c.from-weighted.ensures, c.add_up-s.ensures.0, c.add_up-s.ensures.1)
