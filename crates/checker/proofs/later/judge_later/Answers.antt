-- `judge_later` judges the records of a block and counts the block.
use Rattle.std.proofs.lemmas.Result.{err_from_is_err_and}
use Rattle.rules.specs.State.{State}
use Rattle.sound.specs.Held.{held}
use Rattle.judge.proofs.reading.Blocks.{later_over, later_on}
use Rattle.checker.proofs.later.judge_later.Goals as goal

pub returns-in_err-q : goal.returns-in_err-q
returns-in_err-q c =
    let x = c.args.x in
    let a = c.args in
    let n = c.judge_records-judged.new in
    let before : State = held x.head a.m.now in
    let after : State = held n.h n.m in
    let p = err_from_is_err_and c.from_residual.result c.from_residual.ensures.1 in
    rw (p.1, p.2) (record { same = c.in_err-q.ensures.same; judged = later_over x.setting x.seeds a.block.now x.progress before after _ c.in_err-q.ensures.judged; carried = tt })

pub returns : goal.returns
returns c =
    let x = c.args.x in
    let a = c.args in
    let h = c.requires in
    let n = c.judge_records-judged.new in
    let before : State = held x.head a.m.now in
    let after : State = held n.h n.m in
    record {
      same = c.in_ok-q.ensures.same;
      judged = later_on x.setting x.seeds a.block.now x.progress before after _ h.0 h.1 h.2 c.in_ok-q.ensures.judged;
      carried = h.4;
    }
