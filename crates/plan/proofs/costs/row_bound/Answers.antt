-- `costs::row_bound`: the quotient is not above the window.
use Prim.Native.Nat.{◌-◌, ◌*◌}
use mathlib.Core.Path.{refl}
use native.Mathlib.Omega.{arith}
use native.Mathlib.Nat.{div-le_self}
use Rattle.rules.specs.Setting.{row_bound}
use Rattle.plan.proofs.costs.row_bound.Goals as goal

pub overflow_add-result-2 : goal.overflow_add-result-2
overflow_add-result-2 c =
    let a = c.args in
    let s = a.s in
    omega (arith, div-le_self (s.w - 1 - 2 * s.n * s.trc) a.td)

pub returns : goal.returns
unfolding row_bound
returns c = refl
