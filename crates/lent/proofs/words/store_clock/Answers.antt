-- `store_clock` meets its contract: only the first word differs.
use mathlib.Core.Path.{sym, ap}
use Rattle.head.specs.Head.{moved_head}
use Rattle.rules.specs.State.{head_of, head_words}
use Rattle.lent.proofs.words.store_clock.Goals as goal

pub returns : goal.returns
unfolding head_of head_words moved_head
returns c = ap head_words (sym c.requires)
