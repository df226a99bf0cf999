use mathlib.Core.Path.{refl}
use Rattle.rules.specs.State.{head_words}
use Rattle.lent.proofs.words.store_head.Goals as goal

pub returns : goal.returns
unfolding head_words
returns c = refl
