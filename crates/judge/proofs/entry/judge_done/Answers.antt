-- `judge_done` calls the model; the rules answer 0 and wait for nothing.
use Rattle.std.proofs.Common.{rules}
use Rattle.rules.specs.State.{State, state}
use Rattle.sound.specs.Held.{held}
use Rattle.judge.proofs.judged.Entries.{done_refused, done_settled}
use Rattle.judge.proofs.entry.judge_done.Goals as goal

pub returns-in-Err : goal.returns-in-Err
returns-in-Err c =
    let a = c.args in
    let n = c.done.new in
    let k = c.named.ensures in
    let before : State = held a.h.now a.m.now in
    let after : State = state n.h n.counters a.m.now.ticks.now a.m.now.rows.now n.threads in
    record {
      same = search rules;
      judged = rw (c.refused.ensures, c.from-in-Err.ensures, c.from.ensures) (done_refused a.s a.seeds.now a.p before a.e c.requires.3 after c.in-Err.refusal (rw (k.0, k.1, k.2) at c.in-Err.ensures));
    }

pub returns-in-Ok : goal.returns-in-Ok
returns-in-Ok c =
    let a = c.args in
    let n = c.done.new in
    let k = c.named.ensures in
    let before : State = held a.h.now a.m.now in
    let after : State = state n.h n.counters a.m.now.ticks.now a.m.now.rows.now n.threads in
    record { same = search rules; judged = rw c.settle.ensures (done_settled a.s a.seeds.now a.p before a.e c.requires.3 after _ (rw (k.0, k.1, k.2) at c.in-Ok.ensures)) }
