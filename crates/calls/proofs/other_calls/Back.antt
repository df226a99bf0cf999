-- The number of a refusal that is passed on.
use mathlib.Core.Path.{◌≡◌, ap}
use Rattle.std.specs.Prelude.{Result, Ok, Err, IsErrAnd}
use Rattle.refused.specs.declared.Refusal.{Refusal}
use Rattle.refused.specs.Numbers.{number_of, code_of}

pub number_back : {A : Type 0} (back : Result A Refusal) (x : Refusal) → IsErrAnd back (λ y. y ≡ x) → code_of back ≡ number_of x
number_back (Ok a) x h = absurd h
number_back (Err y) x h = ap number_of h
