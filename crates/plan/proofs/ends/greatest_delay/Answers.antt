-- `ends::greatest_delay`: by what `min` ensures.
use native.Mathlib.Omega.{arith}
use Rattle.plan_rules.specs.delays.Answer.{greatest_delay}
use Rattle.plan.proofs.ends.Served.{places_small}
use borrow.Author.Rules.{rules}
use Rattle.plan.proofs.ends.greatest_delay.Goals as goal

pub overflow_mul-m : goal.overflow_mul-m
overflow_mul-m c =
    let a = c.args in
    omega (arith, places_small a.m.history a.s.tfaw (search rules) (search rules))

pub returns : goal.returns
unfolding greatest_delay
returns c = c.min.ensures
