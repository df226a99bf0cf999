-- `lanes::spread` meets its contract.
use Rattle.hash.proofs.lanes.Masks.{spread_is}
use Rattle.hash.proofs.lanes.spread.Goals as goal

pub returns : goal.returns
returns c = spread_is c.args.bits
