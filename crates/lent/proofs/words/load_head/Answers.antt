use mathlib.Core.Path.{refl}
use Rattle.rules.specs.State.{head_of}
use Rattle.lent.proofs.words.load_head.Goals as goal

pub returns : goal.returns
unfolding head_of
returns c = refl
