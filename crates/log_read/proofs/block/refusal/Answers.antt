-- `block::refusal`: the first test that fails.
use Rattle.log_format.specs.Blocks.{block_refusal}
use Rattle.log_read.proofs.block.refusal.Goals as goal

pub returns-then-not-is_checked-clause-refused : goal.returns-then-not-is_checked-clause-refused
unfolding block_refusal
returns-then-not-is_checked-clause-refused c = simp (← c.is_checked.ensures, c.if-not-is_checked.true)

pub returns-then-not-is_laid_out-clause-refused : goal.returns-then-not-is_laid_out-clause-refused
unfolding block_refusal
returns-then-not-is_laid_out-clause-refused c = simp (← c.is_checked.ensures, c.if-not-is_checked.false, ← c.is_laid_out.ensures.0, c.if-not-is_laid_out.true)

pub returns-clause-refused : goal.returns-clause-refused
unfolding block_refusal
returns-clause-refused c = simp (← c.is_checked.ensures, c.if-not-is_checked.false, ← c.is_laid_out.ensures.0, c.if-not-is_laid_out.false)
