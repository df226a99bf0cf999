-- `differs` sets the model up by block 0 and judges the records that stay.
use mathlib.Core.Path.{◌≡◌, refl, ap, ◌∙◌}
use mathlib.Core.List.{List}
use Prim.Native.Nat.{ℕ}
use native.Mathlib.Omega.{arith}
use Rattle.rules.specs.Answers.{none}
use Rattle.rules.specs.Setting.{setting_refusal}
use Rattle.rules.specs.Policy.{limits01, narrow}
use Rattle.rules.specs.Tested.{Sound}
use Rattle.log_format.specs.declared.Entry.{Entry}
use Rattle.log_format.specs.Claims.{records_of}
use Rattle.log_format.specs.Verdict.{Running}
use Rattle.judge.specs.Follow.{running}
use Rattle.judge.specs.Blocks.{read_so_far, read_in}
use Rattle.cut_rules.specs.selections.Selections.{chosen, bits}
use Rattle.cut_rules.specs.Cut.{differing}
use Rattle.cut_rules.specs.Roomy.{Roomy}
use Rattle.cut_down.specs.Kept.{none_judged}
use Rattle.cut_down.proofs.run.Begin.{begin_over, begin_on}
use Rattle.cut_down.proofs.run.differs.Goals as goal

pub returns-in-Err : goal.returns-in-Err
returns-in-Err c =
    let a = c.args in
    let m = a.m.now in
    let before : Running = read_so_far c.start.result m.counters m.ticks m.rows m.threads in
    let kept : List Entry = chosen (bits a.n a.kept) (records_of a.bytes.now) in
    let roomy : Roomy limits01 m.counters m.ticks m.rows m.threads =
    record { counters = omega arith; ticks = omega arith; rows = omega arith; threads = omega arith } in
    begin_over before c.block_at-block.result kept roomy _ c.in-Err.ensures.judged.follows ∙ ap (λ (s : List ℕ). differing narrow s kept) c.block_at-block.ensures

pub judge_kept-requires : goal.judge_kept-requires
judge_kept-requires c =
    let n = c.judge_start.new in
    let x : Running = read_in c.in-Ok.begun n.m in
    let j = c.in-Ok.ensures.judged in
    let model : (setting_refusal limits01 x.setting x.seeds ≡ none) × Sound x.setting x.state = j.ready.model (omega (arith, j.moved)) in
    (model.0, model.1, c.in-Ok.ensures.carried, c.requires.0, c.requires.1, c.requires.2)

pub returns-in-Ok : goal.returns-in-Ok
returns-in-Ok c =
    let a = c.args in
    let m = a.m.now in
    let n = c.judge_start.new in
    let before : Running = read_so_far c.start.result m.counters m.ticks m.rows m.threads in
    let x : Running = read_in c.in-Ok.begun n.m in
    let kept : List Entry = chosen (bits a.n a.kept) (records_of a.bytes.now) in
    let roomy : Roomy limits01 m.counters m.ticks m.rows m.threads =
    record { counters = omega arith; ticks = omega arith; rows = omega arith; threads = omega arith } in
    c.judge_kept.ensures.differing
    ∙ begin_on before c.block_at-block.result kept roomy x c.in-Ok.ensures.judged.follows (running none_judged x.setting x.seeds x.state) refl refl refl
    ∙ ap (λ (s : List ℕ). differing narrow s kept) c.block_at-block.ensures
