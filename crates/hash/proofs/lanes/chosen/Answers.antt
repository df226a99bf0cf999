-- `lanes::chosen` meets its contract.
use mathlib.Core.Path.{ap₂}
use lib.Bits.{bit_and}
use Rattle.hash.specs.Lanes.{chosen}
use Rattle.hash.proofs.lanes.chosen.Goals as goal

pub returns : goal.returns
unfolding chosen
returns c = ap₂ bit_and c.four.ensures c.mask.ensures
