-- `lay` puts the lines of each kind of report.
use native.Mathlib.Omega.{arith}
use Rattle.report.proofs.Lines.{refused_text, agrees_text, differs_text, laid}
use Rattle.report.proofs.lay.Goals as goal

pub returns-in-Refused : goal.returns-in-Refused
returns-in-Refused c =
    let q = c.put_line_of_two.ensures in
    let p = c.requires in
    laid _ _ _ (omega (arith, q, c.put_line_of_two.auto)) (refused_text c.args.report _ _ _ c.in-Refused.is q.1)

pub returns-in-Agrees : goal.returns-in-Agrees
returns-in-Agrees c =
    let q = c.put.ensures in
    let k = c.put_counts-at.ensures in
    let p = c.requires in
    laid _ _ _ (omega (arith, q, c.put.auto, c.put_counts-at.auto)) (agrees_text c.args.report _ _ _ _ c.in-Agrees.is k.1 q.1)

pub returns-in-Differs : goal.returns-in-Differs
returns-in-Differs c =
    let q = c.put_line_of_two-in-Differs.ensures in
    let k = c.put_counts-at-in-Differs.ensures in
    let p = c.requires in
    laid _ _ _ (omega (arith, q, c.put_line_of_two-in-Differs.auto, c.put_counts-at-in-Differs.auto)) (differs_text c.args.report _ _ _ _ _ _ c.in-Differs.is k.1 q.1)
