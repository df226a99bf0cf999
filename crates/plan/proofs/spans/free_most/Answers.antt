-- `spans::free_most`: m is at most x, and F is within 64 bits.
use mathlib.Core.Path.{◌≡◌, ap, ◌∙◌}
use Prim.Native.Nat.{ℕ, ◌+◌, ◌-◌, ◌*◌}
use native.Mathlib.Omega.{arith}
use Rattle.rules.specs.Cells.{ceil_div}
use Rattle.rules.specs.Setting.{epoch_length}
use Rattle.rules.specs.Claims.{free_most}
use Rattle.rules.proofs.Accept.{ceil_le}
use Rattle.plan_rules.proofs.spans.Free.{free_apart, free_fits}
use borrow.Author.Rules.{rules}
use Rattle.plan.proofs.spans.Quotient.{same}
use Rattle.plan.proofs.spans.free_most.Goals as goal

pub div_ceil-m-requires : goal.div_ceil-m-requires
div_ceil-m-requires c = let low = c.requires.0.low in omega arith

pub overflow_add-m : goal.overflow_add-m
overflow_add-m c =
    let low = c.requires.0.low in
    let q = c.div_ceil-m.ensures ∙ same (c.args.x - 1) (epoch_length c.args.s) (omega arith) in
    omega (arith, ceil_le (c.args.x - 1) (epoch_length c.args.s) (omega arith))

pub overflow_mul-result : goal.overflow_mul-result
overflow_mul-result c =
    let low = c.requires.0.low in
    let pairs : let a = c.args in c.div_ceil.result ≡ ceil_div (ceil_div (a.x - 1) (epoch_length a.s) + 1) 2 = c.div_ceil.ensures ∙ same (c.div_ceil-m.result + 1) 2 (omega arith) ∙ ap (λ (q : ℕ). ceil_div (q + 1) 2) (c.div_ceil-m.ensures ∙ same (c.args.x - 1) (epoch_length c.args.s) (omega arith)) in
    let free : let a = c.args in a.s.n * c.div_ceil.result ≡ free_most a.s a.x = ap (λ (k : ℕ). c.args.s.n * k) pairs in
    let a = c.args in
    let ok = c.requires.0 in
    omega (arith, free, free_apart a.s a.x ok, free_fits a.s a.x ok (search rules))

pub returns : goal.returns
returns c =
    let low = c.requires.0.low in
    let pairs : let a = c.args in c.div_ceil.result ≡ ceil_div (ceil_div (a.x - 1) (epoch_length a.s) + 1) 2 = c.div_ceil.ensures ∙ same (c.div_ceil-m.result + 1) 2 (omega arith) ∙ ap (λ (q : ℕ). ceil_div (q + 1) 2) (c.div_ceil-m.ensures ∙ same (c.args.x - 1) (epoch_length c.args.s) (omega arith)) in
    let free : let a = c.args in a.s.n * c.div_ceil.result ≡ free_most a.s a.x = ap (λ (k : ℕ). c.args.s.n * k) pairs in
    free
