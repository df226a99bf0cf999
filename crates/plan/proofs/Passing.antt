-- What a refusal that a `?` gives back says of the answer.
use mathlib.Core.Path.{◌≡◌, refl, ap}
use mathlib.Core.Bool.{Bool, true, false, cond}
use Prim.Native.Nat.{◌*◌}
use lib.Dec.{leb, eqb}
use borrow.Author.Tests.{eqb-false}
use Rattle.std.specs.Prelude.{Result, Ok, Err}
use Rattle.std.specs.Result.{result_and, IsErrAnd}
use Rattle.rules.specs.declared.Setting.{Setting}
use Rattle.rules.specs.declared.Limits.{Limits}
use Rattle.rules.specs.Answers.{refusal_number}
use Rattle.refused.specs.declared.Refusal.{Refusal}
use Rattle.refused.specs.declared.Refusal.TheVariants.{OutOfRange, ShortWindow, AboveLimit}
use Rattle.plan_rules.specs.delays.Delays.{Plan, delay_refusal}
use Rattle.plan_rules.specs.delays.Answer.{delays_above, delays_of}
use Rattle.plan.specs.Plan.{early}
use Rattle.plan_rules.proofs.delays.Shape.{Other, other_number}

-- the exit of a `?`
pub passed_up : {A B : Type 0} (tested : Result A Refusal) (back rest : Result B Refusal) (x : Refusal) → tested ≡ Err x → IsErrAnd back (λ y. y ≡ x)
    → back ≡ result_and tested rest
passed_up tested (Ok b) rest x e h = absurd h
passed_up tested (Err y) rest x e h = rw e (ap (λ (r : Refusal). Err r) h)

-- the answer behind refusals 1 and 2
pub delays_behind : (m : Limits) (s : Setting) → delays_of m s ≡ result_and (early (delay_refusal m s 1)) (cond (leb s.l (2 * s.n)) (Err AboveLimit) (delays_above m s))
unfolding delays_of
delays_behind m s = go (eqb (refusal_number (delay_refusal m s 1)) 1) (eqb (refusal_number (delay_refusal m s 1)) 2) (cond (leb s.l (2 * s.n)) (Err AboveLimit) (delays_above m s))
  where
    go : (a b : Bool) (rest : Plan) → cond a (Err OutOfRange) (cond b (Err ShortWindow) rest) ≡ result_and (cond a (Err OutOfRange) (cond b (Err ShortWindow) (Ok (tt {0})))) rest
    go true b rest = refl
    go false true rest = refl
    go false false rest = refl

-- a setting that gets neither
pub other : (m : Limits) (s : Setting) (u : Unit {0}) → early (delay_refusal m s 1) ≡ Ok u → Other m s
other m s u e =
    let neither = go (eqb (refusal_number (delay_refusal m s 1)) 1) (eqb (refusal_number (delay_refusal m s 1)) 2) e in
    other_number m s (eqb-false _ 1 neither.0) (eqb-false _ 2 neither.1)
  where
    go : (a b : Bool) → ◌≡◌ {A = Result (Unit {0}) Refusal} (cond a (Err OutOfRange) (cond b (Err ShortWindow) (Ok (tt {0})))) (Ok u) → (a ≡ false) × (b ≡ false)
    go true b k = absurd cc
    go false true k = absurd cc
    go false false k = (refl, refl)
