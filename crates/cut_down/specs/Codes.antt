-- The refusals of the call by name, with their numbers.
use Rattle.std.specs.Prelude.{List, [], ◌∷◌, ℕ, Result, Ok, Err}
use Rattle.log_format.specs.Refusals.{log_refusal_number}
use Rattle.log_read.specs.Faults.{fault_refusal}
use Rattle.refused.specs.Numbers.{number_of as number_of_setting}
use Rattle.cut_down.specs.declared.codes.CutRefusal.{CutRefusal}
use Rattle.cut_down.specs.declared.codes.CutRefusal.TheVariants.{Cut, Block, Setting, TooMany, Agrees}

abbrev pub number_of : CutRefusal → ℕ
number_of Cut = 11
number_of (Block f) = log_refusal_number (fault_refusal f)
number_of (Setting r) = number_of_setting r
number_of TooMany = 20
number_of Agrees = 21

-- 0 where nothing is refused, else the number
abbrev pub code : {A : Type 0} → Result A CutRefusal → ℕ
code (Ok x) = 0
code (Err r) = number_of r

-- what is left in out: the selection, or what was there
abbrev pub written : Result ℕ CutRefusal → List ℕ → List ℕ
written (Ok kept) before = kept ∷ []
written (Err r) before = before
