-- `steady` meets its contract: each early return is a part of the test that fails, the last one has all others.
use Rattle.std.proofs.Common.{◌≡◌, true, ◌-◌, ◌<◌, ◌≤◌, T, get_or, ◌∙◌, arith}
use Rattle.rules.specs.History.{back, not_after}
use Rattle.history.specs.Runs.{never_falls}
use Rattle.rules.proofs.Tests.{same_test, holds}
use Rattle.history.proofs.runs.Results.{rejected, rejected_by, passed}
use Rattle.history.proofs.test.Runs.{tested, steady_newest, steady_wrap, steady_low, steady_high, steady_all}
use Rattle.history.proofs.test.steady.Goals as goal

pub returns-then-not-is_not_after : goal.returns-then-not-is_not_after
returns-then-not-is_not_after c =
    let a = c.args in
    rejected_by c.is_not_after.result (not_after a.last (get_or a.ticks.now c.place_before-newest.result 0)) (tested a.ticks.now a.h a.next a.last) c.is_not_after.ensures c.if-not-is_not_after.true
    (λ s. rw c.place_before-newest.ensures.0 (steady_newest a.ticks.now a.h a.next a.last (omega arith) s))

pub returns-then-ticks-h : goal.returns-then-ticks-h
returns-then-ticks-h c =
    let a = c.args in
    rejected (tested a.ticks.now a.h a.next a.last)
    (λ s. omega (arith, steady_wrap a.ticks.now a.h a.next a.last (omega arith) s (omega arith)))

pub returns-then-not-never_falls : goal.returns-then-not-never_falls
returns-then-not-never_falls c =
    let a = c.args in
    rejected_by c.never_falls.result (never_falls a.ticks.now 0 (a.next - 1)) (tested a.ticks.now a.h a.next a.last) c.never_falls.ensures c.if-not-never_falls.true
    (steady_low a.ticks.now a.h a.next a.last (omega arith))

pub returns : goal.returns
returns c =
    let a = c.args in
    let newest_ok : T (not_after a.last (get_or a.ticks.now (back a.h a.next 0) 0)) =
    rw c.place_before-newest.ensures.0 at (passed c.is_not_after.result (not_after a.last (get_or a.ticks.now c.place_before-newest.result 0)) c.is_not_after.ensures c.if-not-is_not_after.false)
    in
    -- the cells before `next`, where there are any, follow on the others and do not fall
    let wrap_ok : 0 < a.next → get_or a.ticks.now (a.h - 1) 0 ≤ get_or a.ticks.now 0 0 = λ z. grind arith in
    let low_true : 0 < a.next → never_falls a.ticks.now 0 (a.next - 1) ≡ true = λ z. grind arith in
    let low_ok : 0 < a.next → (get_or a.ticks.now (a.h - 1) 0 ≤ get_or a.ticks.now 0 0) × T (never_falls a.ticks.now 0 (a.next - 1)) =
    λ z. (wrap_ok z, holds (never_falls a.ticks.now 0 (a.next - 1)) (low_true z)) in
    let high = never_falls a.ticks.now a.next (a.h - 1 - a.next) in
    c.never_falls-2.ensures
    ∙ same_test high (tested a.ticks.now a.h a.next a.last)
    (steady_all a.ticks.now a.h a.next a.last (omega arith) newest_ok low_ok)
    (steady_high a.ticks.now a.h a.next a.last (omega arith))
