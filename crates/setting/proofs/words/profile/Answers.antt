-- `words::profile`: mark 1 has the limits of the small card, any other those of the large one.
use mathlib.Core.Path.{◌≡◌, refl}
use mathlib.Core.Logic.{◌≢◌}
use Prim.Native.Nat.{ℕ, zero, suc}
use Rattle.rules.specs.Setting.{large, profile_of}
use Rattle.setting.proofs.words.profile.Goals as goal

other : (mark : ℕ) → mark ≢ 1 → large ≡ profile_of mark
other zero h = refl
other (suc zero) h = absurd (h refl)
other (suc (suc mark)) h = refl

pub returns-then-mark-eq1 : goal.returns-then-mark-eq1
returns-then-mark-eq1 c = rw c.if-mark-eq1.true

pub returns : goal.returns
returns c = other c.args.mark c.if-mark-eq1.false
