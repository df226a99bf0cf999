-- `run` goes over the blocks of the input up to the first event, and reports the verdict of some bytes.
use mathlib.Core.Path.{◌≡◌, refl}
use native.Mathlib.Omega.{arith}
use lib.ListN.{length}
use Rattle.log_format.specs.Verdict.{memory}
use Rattle.log_format.specs.Verdict.{Running}
use Rattle.judge.specs.Blocks.{read_in}
use Rattle.checker.proofs.Logs.{start_memory}
use Rattle.check_log.proofs.Fills.{none_yet, goes_on, is_over}
use Rattle.check_log.proofs.run.Goals as goal

pub loop-next-init : goal.loop-next-init
unfolding memory
loop-next-init c = (refl, c.start-x.ensures.2 _ _ _ _, none_yet _ c.start-x.ensures.0 (start_memory _ c.start-x.ensures.1), c.start-x.ensures.3)

pub returns-in-Err : goal.returns-in-Err
returns-in-Err c =
    let l = c.loop-next in
    let read : Running = read_in l.x l.m in
    let whole : length c.fill-filled.new.block ≡ 512 = omega (arith, c.fill-filled.auto, l.invariant.0) in
    is_over read c.fill-filled.new.block l.invariant.2 whole c.fill-filled.result _ c.in-Err.ensures.judged.follows

pub loop-next-preserved : goal.loop-next-preserved
loop-next-preserved c =
    let l = c.loop-next in
    let i = l.invariant in
    let q = c.judge_filled in
    let read : Running = read_in l.x l.m in
    let next : Running = read_in c.in-Ok.next q.new.m in
    let whole : length c.fill-filled.new.block ≡ 512 = omega (arith, c.fill-filled.auto, i.0) in (
      omega (arith, whole),
      c.in-Ok.ensures.judged.ready,
      goes_on read c.fill-filled.new.block i.2 whole c.fill-filled.result next c.in-Ok.ensures.judged.follows,
      c.in-Ok.ensures.carried,
    )
