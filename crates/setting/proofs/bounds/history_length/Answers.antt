-- `bounds::history_length`: by what `history_places` ensures.
use Rattle.rules.specs.Setting.{history_length}
use Rattle.setting.proofs.bounds.history_length.Goals as goal

pub returns : goal.returns
unfolding history_length
returns c = c.history_places.ensures
