-- `judge_request` calls the model and compares the answer's number and wait tick.
use Rattle.rules.specs.State.{State}
use Rattle.sound.specs.Held.{held}
use Rattle.judge.proofs.judged.Entries.{request_refused, request_settled}
use Rattle.judge.proofs.entry.judge_request.Goals as goal

pub returns-in-Err : goal.returns-in-Err
returns-in-Err c =
    let a = c.args in
    let n = c.request.new in
    let k = c.named.ensures in
    let before : State = held a.h.now a.m.now in
    let after : State = held n.h n.m in
    record {
      same = c.in-Err.ensures.same;
      judged = rw (c.refused.ensures, c.from-in-Err.ensures, c.from.ensures)
          (request_refused a.s a.seeds.now a.p before a.e c.requires.3 after c.in-Err.refusal (rw (k.0, k.1, k.2) at c.in-Err.ensures.told));
    }

pub returns-in-Ok : goal.returns-in-Ok
returns-in-Ok c =
    let a = c.args in
    let n = c.request.new in
    let k = c.named.ensures in
    let before : State = held a.h.now a.m.now in
    let after : State = held n.h n.m in
    record {
      same = c.in-Ok.ensures.same;
      judged = rw c.settle.ensures
          (request_settled a.s a.seeds.now a.p before a.e c.requires.3 after c.in-Ok.answer (rw (k.0, k.1, k.2) at c.in-Ok.ensures.told) c.answer_number-number.result c.answer_wait-wait.result c.opened_by.result
          c.answer_number-number.ensures c.answer_wait-wait.ensures c.opened_by.ensures.1 c.opened_by.ensures.0);
    }
