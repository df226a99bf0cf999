-- What the test of refusal 1 gives where it does not hold.
use mathlib.Core.Path.{◌≡◌}
use mathlib.Core.List.{List}
use mathlib.Core.Bool.{Bool, true, ◌&&◌}
use Prim.Native.Nat.{ℕ}
use lib.Dec.{leb}
use Rattle.rules.specs.declared.Setting.{Setting}
use Rattle.rules.specs.declared.Limits.{Limits}
use Rattle.rules.specs.Setting.{fields_in_range, seeds_in_range}
use Rattle.rules.specs.Tested.{Ranges}
use Rattle.setting.specs.Differing.{Differing}
use Rattle.rules.proofs.Tests.{and_l, holds}
use Rattle.rules.proofs.Accept.{ranges}

-- the test of refusal 1 does not hold: the fields and the seeds are in range
abbrev pub in_range : Limits → Setting → List ℕ → Bool
in_range m s seeds = fields_in_range m s && seeds_in_range seeds

-- the code's test is that test: f is what it finds of the fields
pub tested : (m : Limits) (s : Setting) {seeds : List ℕ} {differing : ℕ} {f b : Bool} → Differing differing seeds → f ≡ fields_in_range m s
    → (f && leb differing 1023) ≡ b → in_range m s seeds ≡ b
tested m s d e h = rw (← e, ← d.ranged) h

-- the ranges that the code's arithmetic needs
pub in_ranges : (m : Limits) (s : Setting) (seeds : List ℕ) → in_range m s seeds ≡ true → Ranges m s
in_ranges m s seeds e = ranges m s (and_l (fields_in_range m s) (seeds_in_range seeds) (holds (in_range m s seeds) e))
