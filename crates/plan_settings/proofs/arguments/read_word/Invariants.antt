-- `read_word`. The loop's invariant: what is left of the word, read after the number so far, gives the number of the whole word.
use Prim.Native.Nat.{◌-◌, ◌≤◌}
use mathlib.Core.Path.{◌≡◌}
use lib.ListN.{length}
use Rattle.plan_settings.specs.Decimal.{digits_from, number_of}
use Rattle.plan_settings.proofs.arguments.read_word.Given as goal

abbrev pub invariant-loop-code : goal.invariant-loop-code
invariant-loop-code l = (l.v ≤ l.most) × (digits_from l.most (length l.word - l.code-index) l.word l.code-index l.v ≡ number_of l.most l.word)
