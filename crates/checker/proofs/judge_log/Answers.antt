-- `judge_log` goes over the blocks of a log up to the first event.
use mathlib.Core.Path.{◌≡◌, sym, ap, ◌∙◌}
use mathlib.Core.List.{[]}
use Prim.Native.Nat.{ℕ, ◌/◌, ◌%◌}
use native.Mathlib.Omega.{arith}
use lib.Dec.{eqb}
use lib.ListN.{length, get_or}
use Rattle.log_format.specs.Bytes.{block_at}
use Rattle.log_format.specs.Verdict.{Running, ended, memory}
use Rattle.judge.specs.Follow.{progress_of, report_of}
use Rattle.judge.specs.Blocks.{read_in}
use Rattle.checker.proofs.Logs.{start_memory, through_none, through_more, through_over, through_all, of_bytes, array_is}
use Rattle.checker.proofs.judge_log.Goals as goal

pub loop-block-init : goal.loop-block-init
unfolding memory
loop-block-init c =
    let bytes = c.args.bytes.now in (
      through_none bytes (length bytes / 512) (eqb (length bytes % 512) 0) _ c.start-x.ensures.0 (start_memory _ c.start-x.ensures.1) (c.start-x.ensures.2 _ _ _ _),
      c.start-x.ensures.3,
    )

pub returns-in-Err : goal.returns-in-Err
returns-in-Err c =
    let bytes = c.args.bytes.now in
    let l = c.loop-block in
    let i : ℕ = l.block-index in
    let read : Running = read_in l.x l.m in
    let is : get_or c.as_chunks.result.0.now i [] ≡ block_at bytes i = array_is bytes c.as_chunks.result.0.now (length bytes / 512) i c.as_chunks.ensures.front (omega arith) in
    through_over bytes (length bytes / 512) (eqb (length bytes % 512) 0) i read l.invariant.0 (omega arith) _ (rw is at c.in-Err.ensures.judged)
    ∙ ap report_of (sym (of_bytes bytes))

pub loop-block-preserved : goal.loop-block-preserved
loop-block-preserved c =
    let bytes = c.args.bytes.now in
    let l = c.loop-block in
    let i : ℕ = l.block-index in
    let n = c.judge_block.new in
    let read : Running = read_in l.x l.m in
    let next : Running = read_in c.in-Ok.next n.m in
    let is : get_or c.as_chunks.result.0.now i [] ≡ block_at bytes i = array_is bytes c.as_chunks.result.0.now (length bytes / 512) i c.as_chunks.ensures.front (omega arith) in (
      through_more bytes (length bytes / 512) (eqb (length bytes % 512) 0) i read l.invariant.0 (omega arith) next (rw is at c.in-Ok.ensures.judged),
      c.in-Ok.ensures.carried,
    )

pub returns : goal.returns
returns c =
    let bytes = c.args.bytes.now in
    let l = c.loop-block in
    let read : Running = read_in l.x l.m in
    c.at_end.ensures
    ∙ ap (λ b. report_of (ended (progress_of l.x.progress) b)) (c.is_empty.ensures ∙ ap (λ (k : ℕ). eqb k 0) c.as_chunks.ensures.back_len)
    ∙ ap report_of (sym (of_bytes bytes ∙ through_all bytes (length bytes / 512) (eqb (length bytes % 512) 0) l.block-index read l.invariant.0 (omega arith)))
