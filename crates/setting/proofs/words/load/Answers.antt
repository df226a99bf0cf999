-- `words::load`: the ten words are the fields, in order.
use mathlib.Core.Path.{refl}
use Rattle.rules.specs.Setting.{setting_of}
use Rattle.setting.proofs.words.load.Goals as goal

pub returns : goal.returns
unfolding setting_of
returns c = refl
