-- The number of a refusal is not 0.
use native.Mathlib.Omega.{arith}
use mathlib.Core.Path.{◌≡◌}
use Rattle.judge.proofs.reading.Blocks.{fault_some}
use Rattle.refused.proofs.Laws.{number_some}
use Rattle.cut_down.specs.declared.codes.CutRefusal.{CutRefusal}
use Rattle.cut_down.specs.declared.codes.CutRefusal.TheVariants.{Cut, Block, Setting, TooMany, Agrees}
use Rattle.cut_down.specs.Codes.{number_of}

pub refusal_some : (r : CutRefusal) → number_of r ≡ 0 → ⊥
refusal_some Cut e = absurd (omega arith)
refusal_some (Block f) e = fault_some f e
refusal_some (Setting r) e = number_some r e
refusal_some TooMany e = absurd (omega arith)
refusal_some Agrees e = absurd (omega arith)
