-- `put_line_of_two` puts five parts, each at the end of the one before.
use native.Mathlib.Omega.{arith}
use lib.ListN.{take}
use Rattle.report.proofs.line.Parts.{two_law}
use Rattle.report.proofs.line.put_line_of_two.Goals as goal

pub returns : goal.returns
returns c =
    let a = c.args in
    let q1 = c.put-a.ensures in
    let q2 = c.put_decimal-b.ensures in
    let q3 = c.put-c.ensures in
    let q4 = c.put_decimal-d.ensures in
    let q5 = c.put.ensures in
    (omega (arith, q1, q2, q3, q4, q5), two_law a.word.now a.m a.n (take a.at a.out.now) _ _ _ _ _ q1.1 q2.1 q3.1 q4.1 q5.1)
