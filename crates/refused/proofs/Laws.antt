-- What the result of a test says of the rules' refusal.
use Rattle.std.proofs.Common.{◌≡◌, Bool, true, false, refl, sym, ap, ◌∙◌, Result, Ok, Err, IsOk, IsErrAnd, ne_eqb, ◌≢◌, arith}
use Rattle.rules.specs.Answers as rules
use Rattle.rules.specs.Answers.{none, out_of_range, short_window, bad_delay, long_history, above_limit, above_profile, short_buffer, bad_memory, outside_setting, bad_tick, none_in_flight, refusal_number, refuse, or_else}
use Rattle.refused.specs.declared.Refusal.{Refusal}
use Rattle.refused.specs.declared.Refusal.TheVariants.{OutOfRange, ShortWindow, BadDelay, LongHistory, AboveLimit, AboveProfile, ShortBuffer, BadMemory, OutsideSetting, BadTick, NoneInFlight}
use Rattle.refused.specs.Numbers.{number_of, code_of}
use Rattle.refused.specs.Passed.{passed}

-- the number that C gets is that of the rules
pub code_passed : (r : rules.Refusal) → code_of (passed r) ≡ refusal_number r
code_passed none = refl
code_passed out_of_range = refl
code_passed short_window = refl
code_passed bad_delay = refl
code_passed long_history = refl
code_passed above_limit = refl
code_passed above_profile = refl
code_passed short_buffer = refl
code_passed bad_memory = refl
code_passed outside_setting = refl
code_passed bad_tick = refl
code_passed none_in_flight = refl

-- no number of a refusal is 0
pub number_some : (r : Refusal) → number_of r ≢ 0
number_some OutOfRange e = absurd (omega arith)
number_some ShortWindow e = absurd (omega arith)
number_some BadDelay e = absurd (omega arith)
number_some LongHistory e = absurd (omega arith)
number_some AboveLimit e = absurd (omega arith)
number_some AboveProfile e = absurd (omega arith)
number_some ShortBuffer e = absurd (omega arith)
number_some BadMemory e = absurd (omega arith)
number_some OutsideSetting e = absurd (omega arith)
number_some BadTick e = absurd (omega arith)
number_some NoneInFlight e = absurd (omega arith)

-- C gets 0 exactly where nothing is refused
pub code_zero : {A : Type 0} (r : Result A Refusal) → code_of r ≡ 0 → IsOk r
code_zero (Ok a) e = refl
code_zero (Err r) e = absurd (number_some r e)

-- nothing is refused exactly where the rules refuse nothing
pub passed_ok : (r : rules.Refusal) (u : Unit {0}) → passed r ≡ Ok u → r ≡ none
passed_ok none u e = refl
passed_ok out_of_range u e = absurd cc
passed_ok short_window u e = absurd cc
passed_ok bad_delay u e = absurd cc
passed_ok long_history u e = absurd cc
passed_ok above_limit u e = absurd cc
passed_ok above_profile u e = absurd cc
passed_ok short_buffer u e = absurd cc
passed_ok bad_memory u e = absurd cc
passed_ok outside_setting u e = absurd cc
passed_ok bad_tick u e = absurd cc
passed_ok none_in_flight u e = absurd cc

-- a refusal is one of the rules, and not none
pub passed_err : (r : rules.Refusal) (x : Refusal) → passed r ≡ Err x → refusal_number r ≢ 0
passed_err r x e z = number_some x (sym (ap code_of e) ∙ code_passed r ∙ z)

-- ---- the first refusal is given

pub passed_first : (a b : rules.Refusal) (x : Refusal) → passed a ≡ Err x → passed (or_else a b) ≡ Err x
passed_first a b x e = rw (ne_eqb (refusal_number a) 0 (passed_err a x e)) e

pub passed_second : (a b : rules.Refusal) (u : Unit {0}) → passed a ≡ Ok u → passed (or_else a b) ≡ passed b
passed_second a b u e = rw (passed_ok a u e)

-- the exit of a `?`: what is given back is the first refusal
pub passed_up : (a b : rules.Refusal) (tested back : Result (Unit {0}) Refusal) (x : Refusal) → tested ≡ passed a → tested ≡ Err x
    → IsErrAnd back (λ y. y ≡ x) → back ≡ passed (or_else a b)
passed_up a b tested (Ok u) x e f h = absurd h
passed_up a b tested (Err y) x e f h = ap Err h ∙ sym (passed_first a b x (sym e ∙ f))

-- ---- one test

pub passed_refuse : (t : Bool) (r rest : rules.Refusal) → t ≡ true → passed (refuse t r rest) ≡ passed r
passed_refuse t r rest e = rw e

pub passed_rest : (t : Bool) (r rest : rules.Refusal) → t ≡ false → passed (refuse t r rest) ≡ passed rest
passed_rest t r rest e = rw e
