-- What the definition of a block's reads is meant to say.
use Rattle.std.specs.Prelude.{◌≡◌, List, ◌∷◌, ℕ, Option, Some}
use Rattle.std.specs.declared.ops.ControlFlow.TheVariants.{Break}
use Rattle.check_log.specs.declared.input.Filled.TheVariants.{End}
use Rattle.check_log.specs.Reads.{after_reads}

-- The input is at its end only where the first read of a block gave nothing: not where a read failed, and not where a byte of the block was read.
abbrev pub EndAtOnce : Type 0
EndAtOnce = (size : ℕ) (got : Option ℕ) (gots : List (Option ℕ)) → after_reads size (got ∷ gots) ≡ Break End → got ≡ Some 0
