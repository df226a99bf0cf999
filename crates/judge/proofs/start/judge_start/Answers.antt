-- `judge_start` takes setting and seeds from block 0 and sets the model up.
use Rattle.rules.specs.State.{State}
use Rattle.sound.specs.Held.{held}
use Rattle.log_format.specs.Verdict.{Running}
use Rattle.judge.specs.Blocks.{read_in}
use Rattle.judge.proofs.reading.Start.{start_on}
use Rattle.judge.proofs.start.judge_start.Goals as goal

pub returns-in-Ok : goal.returns-in-Ok
returns-in-Ok c =
    let a = c.args in
    let n = c.setup.new in
    let before : Running = read_in a.x a.m.now in
    let after : State = held n.h n.m in
    record {
      same = c.in-Ok.ensures.same;
      judged = start_on before a.block.now c.setting-setting.result c.seeds-seeds.result after c.setting-setting.ensures c.seeds-seeds.ensures c.in-Ok.table c.in-Ok.ensures.begun;
      carried = c.in-Ok.ensures.table;
    }
