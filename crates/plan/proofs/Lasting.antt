-- The search for the last threshold, from above: what holds above n and of n holds above n - 1. What an answer with delays shows.
use mathlib.Core.Path.{◌≡◌, sym, subst}
use mathlib.Core.Bool.{false}
use Prim.Native.Nat.{ℕ, ◌-◌, ◌≤◌, ◌<◌}
use native.Mathlib.Omega.{arith}
use native.Mathlib.Decide.{ℕ_discrete}
use Rattle.rules.specs.declared.Setting.{Setting}
use Rattle.rules.specs.declared.Limits.{Limits}
use Rattle.std.specs.Prelude.{Ok}
use Rattle.plan_rules.specs.declared.delays.Delays.{Delays}
use Rattle.plan_rules.specs.delays.Delays.{with_threshold, AcceptedDelay, Ends, Says}
use Rattle.plan_rules.specs.delays.Answer.{delays_of}
use Rattle.plan.specs.Plan.{has_delay}
use Rattle.plan_rules.proofs.delays.Answer.{right}

-- no threshold above n has a delay
abbrev pub NoneAfter : Limits → Setting → ℕ → Type 0
NoneAfter m s n = (more : ℕ) → n < more → more ≤ m.threshold → has_delay m (with_threshold s more) ≡ false

pub one_less_lem : (m : Limits) (s : Setting) (n : ℕ) → 1 ≤ n → has_delay m (with_threshold s n) ≡ false → NoneAfter m s n → NoneAfter m s (n - 1)
one_less_lem m s n low e f more h k = go (ℕ_discrete more n)
  where
    go : Dec (more ≡ n) → has_delay m (with_threshold s more) ≡ false
    go (yes z) = subst (λ (x : ℕ). has_delay m (with_threshold s x) ≡ false) (sym z) e
    go (no z) = f more (omega arith) k

-- the least delay of an answer is accepted
pub least_accepted : (m : Limits) (s : Setting) (d : Delays) → delays_of m s ≡ Ok d → AcceptedDelay m s d.least
least_accepted m s d e =
    let x : Ends m s d.least d.greatest = subst (Says m s) e (right m s) in
    x.least_accepted
