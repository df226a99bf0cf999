-- The refusals of the rules as the code gives them.
use Rattle.std.specs.Prelude.{Result, Ok, Err}
use Rattle.rules.specs.Answers as rules
use Rattle.rules.specs.Answers.{none, out_of_range, short_window, bad_delay, long_history, above_limit, above_profile, short_buffer, bad_memory, outside_setting, bad_tick, none_in_flight}
use Rattle.refused.specs.declared.Refusal.{Refusal}
use Rattle.refused.specs.declared.Refusal.TheVariants.{OutOfRange, ShortWindow, BadDelay, LongHistory, AboveLimit, AboveProfile, ShortBuffer, BadMemory, OutsideSetting, BadTick, NoneInFlight}

-- Ok where the rules refuse nothing, else the refusal of the same name
abbrev pub passed : rules.Refusal → Result (Unit {0}) Refusal
passed none = Ok tt
passed out_of_range = Err OutOfRange
passed short_window = Err ShortWindow
passed bad_delay = Err BadDelay
passed long_history = Err LongHistory
passed above_limit = Err AboveLimit
passed above_profile = Err AboveProfile
passed short_buffer = Err ShortBuffer
passed bad_memory = Err BadMemory
passed outside_setting = Err OutsideSetting
passed bad_tick = Err BadTick
passed none_in_flight = Err NoneInFlight
