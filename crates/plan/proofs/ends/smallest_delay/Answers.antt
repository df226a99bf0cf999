-- `ends::smallest_delay`: the quotient is not above the window.
use Prim.Native.Nat.{◌-◌, ◌*◌}
use mathlib.Core.Path.{refl}
use native.Mathlib.Omega.{arith}
use native.Mathlib.Nat.{div-le_self}
use Rattle.plan_rules.specs.delays.Answer.{smallest_delay}
use Rattle.plan.proofs.ends.smallest_delay.Goals as goal

pub overflow_add-result : goal.overflow_add-result
overflow_add-result c =
    let s = c.args.s in
    omega (arith, div-le_self (s.w - 1 - 2 * s.n * s.trc) (s.l - 2 * s.n))

pub returns : goal.returns
unfolding smallest_delay
returns c = refl
