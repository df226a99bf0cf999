-- `later` goes over the blocks after block 0 up to the first refusal.
use Prim.Native.Nat.{◌/◌, ◌%◌}
use mathlib.Core.Path.{refl, ap}
use mathlib.Core.Bool.{Bool}
use native.Mathlib.Omega.{arith}
use lib.Dec.{eqb}
use lib.ListN.{length}
use borrow.Author.Tests.{eq-eqb, ne_eqb}
use Rattle.std.proofs.lemmas.Result.{err_from_is_err_and}
use Rattle.log_format.specs.Refusals.{log_refusal_number}
use Rattle.judge.proofs.reading.Blocks.{fault_some}
use Rattle.cut_down.proofs.blocks.Through.{through_more, through_refused, through_cut, through_all}
use Rattle.cut_down.proofs.blocks.later.Goals as goal

pub returns-in_err-refusal-clause-coded : goal.returns-in_err-refusal-clause-coded
returns-in_err-refusal-clause-coded c =
    let bytes = c.args.bytes.now in
    let whole : Bool = eqb (length bytes % 512) 0 in
    let l = c.loop-b in
    let p = err_from_is_err_and c.from_residual.result c.from_residual.ensures.1 in
    rw (p.1, p.2)
    (through_refused bytes (length bytes / 512) whole l.b l.before l.records l.invariant c.block_at-block.result c.block_at-block.ensures c.loop-b-test.true _
    (ap log_refusal_number c.in_err-refusal.ensures.refused) (fault_some _))

pub loop-b-preserved : goal.loop-b-preserved
loop-b-preserved c =
    let bytes = c.args.bytes.now in
    let whole : Bool = eqb (length bytes % 512) 0 in
    let l = c.loop-b in
    through_more bytes (length bytes / 512) whole l.b l.before l.records l.invariant c.block_at-block.result c.block_at-block.ensures c.loop-b-test.true 0
    (ap log_refusal_number c.in_ok-refusal.ensures.refused) refl c.count-before.result c.count-before.ensures.0 c.count-before.ensures.1

pub returns-then-bytes-ne0-clause-coded : goal.returns-then-bytes-ne0-clause-coded
returns-then-bytes-ne0-clause-coded c =
    let bytes = c.args.bytes.now in
    let l = c.loop-b in
    through_cut bytes (length bytes / 512) (eqb (length bytes % 512) 0) l.b l.before l.records l.invariant (omega arith) (ne_eqb (length bytes % 512) 0 c.if-bytes-ne0.true)

pub returns-clause-coded : goal.returns-clause-coded
returns-clause-coded c =
    let bytes = c.args.bytes.now in
    let l = c.loop-b in
    (through_all bytes (length bytes / 512) (eqb (length bytes % 512) 0) l.b l.before l.records l.invariant (omega arith) (eq-eqb (length bytes % 512) 0 c.if-bytes-ne0.false)).0
