-- `gap_end` is the first tick at which the gap is past.
use native.Mathlib.Omega.{arith}
use borrow.Author.Tests.{eq-eqb, ne_eqb}
use Rattle.decision.proofs.gap_end.Goals as goal

pub returns-then-stored-eq0 : goal.returns-then-stored-eq0
returns-then-stored-eq0 c = (simp (eq-eqb _ _ c.if-stored-eq0.true), omega arith)

pub returns-else-stored-eq0 : goal.returns-else-stored-eq0
returns-else-stored-eq0 c = (simp (ne_eqb _ _ c.if-stored-eq0.false), omega arith)
