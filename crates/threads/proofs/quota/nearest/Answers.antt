-- `quota::nearest`: each return is a case of the definition.
use native.Mathlib.Omega.{arith}
use Rattle.rules.proofs.Rounding.{rounds_short, rounds_past, rounds_half}
use Rattle.threads.proofs.quota.nearest.Goals as goal

pub returns-then-twice-b : goal.returns-then-twice-b
returns-then-twice-b c = rounds_short c.args.a c.args.b (omega arith)

pub returns-then-b-twice : goal.returns-then-b-twice
returns-then-b-twice c = let a = c.args in rounds_past a.a a.b (omega arith)

pub returns : goal.returns
returns c = let a = c.args in rounds_half a.a a.b (omega arith)
