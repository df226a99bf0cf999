-- `record_at` copies the block and reads its entry.
use Rattle.cut_down.proofs.blocks.record_at.Goals as goal

pub returns : goal.returns
returns c = rw c.block_at-block.ensures at c.entry_at.ensures
