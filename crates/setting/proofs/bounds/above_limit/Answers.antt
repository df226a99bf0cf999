-- `bounds::above_limit`: the product in place of the quotient, and the sizes.
use native.Mathlib.Omega.{arith}
use Prim.Native.Nat.{◌-◌, ◌*◌}
use mathlib.Core.Path.{sym}
use Rattle.setting.proofs.bounds.Laws.{span_small, bound_above, bound_product}
use borrow.Author.Rules.{rules}
use Rattle.setting.proofs.bounds.above_limit.Goals as goal

pub returns-then-s-free : goal.returns-then-s-free
returns-then-s-free c = sym (bound_above c.args.s c.if-s-free.true)

pub overflow_mul-result : goal.overflow_mul-result
overflow_mul-result c =
    let s = c.args.s in
    omega (arith, span_small (s.l - 2 * s.n) s.td (omega arith) (omega arith))

pub returns : goal.returns
returns c = bound_product c.args.s (search rules) c.if-s-free.false
