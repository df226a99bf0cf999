-- `put_counts` puts two lines.
use native.Mathlib.Omega.{arith}
use Rattle.report.proofs.counts.Laws.{counts_law}
use Rattle.report.proofs.counts.put_counts.Goals as goal

pub returns : goal.returns
returns c =
    let a = c.args in
    let q1 = c.put_line-a.ensures in
    let q2 = c.put_line.ensures in
    (omega (arith, q1, q2), counts_law a.records a.opened _ _ q1.1 q2.1)
