-- `bounds::short_window`: the product of refusal 2 fits.
use native.Mathlib.Omega.{arith}
use Rattle.setting.proofs.bounds.Laws.{gaps_small}
use borrow.Author.Rules.{rules}
use Rattle.setting.proofs.bounds.short_window.Goals as goal

pub overflow_mul-result-2 : goal.overflow_mul-result-2
overflow_mul-result-2 c =
    let s = c.args.s in
    omega (arith, gaps_small s.n s.trc (search rules) (search rules))
