-- `quota::quota`: the full quota while the counter is 0, and else the formula.
use mathlib.Core.Path.{sym, ap, ◌∙◌}
use native.Mathlib.Omega.{arith}
use Rattle.rules.specs.Quota.{quota_even}
use Rattle.rules.proofs.Regular.{quota_full}
use Rattle.threads.proofs.quota.quota.Goals as goal

pub returns-then-c-eq0 : goal.returns-then-c-eq0
returns-then-c-eq0 c =
    let a = c.args in
    let p = c.requires in
    (sym (quota_full a.s (omega arith)) ∙ sym (ap (quota_even a.s) c.if-c-eq0.true), p.2)
