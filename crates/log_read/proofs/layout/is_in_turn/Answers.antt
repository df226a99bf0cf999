-- `is_in_turn`: blocks 0 and 1 follow no block of records.
use mathlib.Core.Path.{refl}
use Rattle.log_format.specs.Blocks.{in_turn}
use Rattle.log_read.proofs.layout.is_in_turn.Goals as goal

pub returns : goal.returns
unfolding in_turn
returns c = refl
