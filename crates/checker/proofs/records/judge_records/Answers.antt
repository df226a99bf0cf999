-- `judge_records` goes over the records of a block up to the first event.
use Prim.Native.Nat.{◌≤◌}
use native.Mathlib.Omega.{arith}
use Rattle.std.proofs.lemmas.Result.{err_from_is_err_and}
use Rattle.rules.specs.State.{State}
use Rattle.sound.specs.Held.{held}
use Rattle.sound.proofs.Held.{same_then}
use Rattle.checker.proofs.records.Records.{going_more, going_over, going_all}
use Rattle.checker.proofs.records.judge_records.Goals as goal

pub returns-in_err-progress : goal.returns-in_err-progress
returns-in_err-progress c =
    let a = c.args in
    let l = c.loop-k in
    let n = c.judge_record.new in
    let first : State = held a.h.now a.m.now in
    let before : State = held l.h l.m in
    let after : State = held n.h n.m in
    let p = err_from_is_err_and c.from_residual.result c.from_residual.ensures.1 in
    rw (p.1, p.2, ← c.count-n.ensures.0)
    (record {
      same = same_then l.invariant.0 c.in_err-progress.ensures.same;
      judged = going_over a.s a.seeds.now a.block.now a.p c.count-n.result first l.k l.progress before l.invariant.1 c.loop-k-test.true c.entry_at-e.result c.entry_at-e.ensures after _
          c.in_err-progress.ensures.judged;
    })

pub loop-k-preserved : goal.loop-k-preserved
loop-k-preserved c =
    let a = c.args in
    let l = c.loop-k in
    let n = c.judge_record.new in
    let first : State = held a.h.now a.m.now in
    let before : State = held l.h l.m in
    let after : State = held n.h n.m in (
      same_then l.invariant.0 c.in_ok-progress.ensures.same,
      going_more a.s a.seeds.now a.block.now a.p c.count-n.result first l.k l.progress before l.invariant.1 c.loop-k-test.true c.entry_at-e.result c.entry_at-e.ensures after _
          c.in_ok-progress.ensures.judged,
    )

pub returns : goal.returns
returns c =
    let a = c.args in
    let l = c.loop-k in
    let first : State = held a.h.now a.m.now in
    let last : State = held l.h l.m in
    let few : c.count-n.result ≤ 20 = let h = c.requires.3 in let e = c.count-n.ensures in omega arith in
    rw (← c.count-n.ensures.0)
    (record { same = l.invariant.0; judged = going_all a.s a.seeds.now a.block.now a.p c.count-n.result first l.k l.progress last l.invariant.1 (omega arith) few })
