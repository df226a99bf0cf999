-- `lanes::mask` meets its contract: the four bits, spread, fill their lanes.
use native.Mathlib.Omega.{arith}
use Rattle.hash.proofs.lanes.Masks.{filled}
use Rattle.hash.proofs.lanes.mask.Goals as goal

pub overflow_mul-result : goal.overflow_mul-result
overflow_mul-result c = omega (arith, (filled c.spread.result c.args.bits c.spread.ensures).1)

pub returns : goal.returns
returns c = (filled c.spread.result c.args.bits c.spread.ensures).0
