-- How many words of the command line an option is: one where it is given.
use Rattle.std.specs.Prelude.{Bool, true, false, ℕ}

abbrev pub words_of : Bool → ℕ
words_of true = 1
words_of false = 0
