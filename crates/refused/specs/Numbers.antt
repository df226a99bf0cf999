-- The numbers of document 01 and of document 02, g, by the names of the code.
use Rattle.std.specs.Prelude.{ℕ, Result, Ok, Err}
use Rattle.refused.specs.declared.Refusal.{Refusal}
use Rattle.refused.specs.declared.Refusal.TheVariants.{OutOfRange, ShortWindow, BadDelay, LongHistory, AboveLimit, AboveProfile, ShortBuffer, BadMemory, OutsideSetting, BadTick, NoneInFlight}

abbrev pub number_of : Refusal → ℕ
number_of OutOfRange = 1
number_of ShortWindow = 2
number_of BadDelay = 3
number_of LongHistory = 4
number_of AboveLimit = 5
number_of AboveProfile = 16
number_of ShortBuffer = 6
number_of BadMemory = 7
number_of OutsideSetting = 8
number_of BadTick = 9
number_of NoneInFlight = 10

-- "It returns its number only": 0 where nothing is refused
abbrev pub code_of : {A : Type 0} → Result A Refusal → ℕ
code_of (Ok a) = 0
code_of (Err r) = number_of r
