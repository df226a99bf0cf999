-- `bounds::history_places`: the quotient is not above the delay, so four times it fits.
use mathlib.Core.Path.{refl}
use native.Mathlib.Omega.{arith}
use Rattle.rules.proofs.Accept.{ceil_le}
use borrow.Author.Rules.{rules}
use Rattle.setting.proofs.bounds.history_places.Goals as goal

pub overflow_mul-result : goal.overflow_mul-result
overflow_mul-result c = omega (arith, ceil_le c.args.td c.args.tfaw (search rules))

pub returns : goal.returns
returns c = refl
