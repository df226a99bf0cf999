-- `plan::last_threshold`: what holds above n and of n holds above n - 1.
use mathlib.Core.Path.{◌≡◌, sym}
use native.Mathlib.Omega.{arith}
use Rattle.plan.proofs.Lasting.{one_less_lem}
use Rattle.plan.proofs.last_threshold.Goals as goal

pub returns-then-has_delay : goal.returns-then-has_delay
returns-then-has_delay c =
    record { within = omega arith; has = λ h. sym c.if-has_delay.ensures; none_after = c.loop-n.invariant }

pub loop-n-preserved : goal.loop-n-preserved
loop-n-preserved c = one_less_lem c.args.m c.args.s c.loop-n.n c.loop-n-test.true (sym c.if-has_delay.ensures) c.loop-n.invariant

pub returns : goal.returns
returns c =
    let z : c.loop-n.n ≡ 0 = omega arith in
    record { within = omega arith; has = λ h. absurd (omega arith); none_after = rw z at c.loop-n.invariant }
