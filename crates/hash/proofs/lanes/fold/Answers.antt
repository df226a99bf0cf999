-- `lanes::fold` meets its contract.
use mathlib.Core.Path.{refl}
use Rattle.hash.proofs.lanes.Lanes.{fold_halves}
use Rattle.hash.proofs.lanes.fold.Goals as goal

pub returns : goal.returns
returns c = fold_halves c.args.x _ _ refl refl
