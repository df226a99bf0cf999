-- `put_decimal` puts the digits of `io::decimal`, which are those of the definition.
use Prim.Native.Nat.{ℕ}
use mathlib.Core.Path.{ap, ◌∙◌}
use mathlib.Core.List.{List, ◌++◌}
use native.Mathlib.Omega.{arith}
use lib.ListN.{take}
use Rattle.report.specs.Lines.{decimal_of}
use Rattle.report.proofs.line.Digits.{digits_are, at_most_20}
use Rattle.report.proofs.line.put_decimal.Goals as goal

pub put-requires : goal.put-requires
put-requires c =
    let d = c.decimal-k.ensures in
    let z = at_most_20 c.args.n c.decimal-k.result d.len (omega arith) in
    omega (arith, d.in_bounds)

pub returns : goal.returns
unfolding decimal_of
returns c =
    let a = c.args in
    let q = c.put.ensures in
    let d = c.decimal-k.ensures in
    let z = at_most_20 a.n c.decimal-k.result d.len (omega arith) in
    (omega (arith, q, d.in_bounds), q.1 ∙ ap (λ (x : List ℕ). take a.at a.out.now ++ x) (d.digits ∙ digits_are c.decimal-k.result 20 a.n d.len z))
