-- `judge_kept` goes over the records that stay up to the first event.
use mathlib.Core.Path.{◌≡◌, refl, sym, ◌∙◌}
use native.Mathlib.Omega.{arith}
use lib.ListN.{length}
use Rattle.rules.specs.State.{State}
use Rattle.sound.specs.Held.{held}
use Rattle.sound.proofs.Held.{same_still, same_then}
use Rattle.log_format.specs.Claims.{records_of}
use Rattle.cut_rules.specs.selections.Selections.{bits}
use Rattle.cut_rules.proofs.selections.Words.{bits_length}
use Rattle.cut_rules.proofs.Places.{record_placed}
use Rattle.cut_down.proofs.kept.Sofar.{sofar_none, sofar_room, sofar_past, sofar_over, sofar_more, sofar_end}
use Rattle.cut_down.proofs.kept.judge_kept.Goals as goal

pub loop-i-init : goal.loop-i-init
loop-i-init c =
    let a = c.args in
    (same_still a.m.now, sofar_none a.x.setting a.x.seeds (bits a.n a.kept) (records_of a.bytes.now) a.n _ (held a.x.head a.m.now) c.requires.1 refl)

pub loop-i-preserved-then-not-is_kept : goal.loop-i-preserved-then-not-is_kept
loop-i-preserved-then-not-is_kept c =
    let a = c.args in
    let l = c.loop-i in
    let long : length (records_of a.bytes.now) ≡ a.n = sym c.requires.4 in
    let placed = record_placed a.bytes.now c.requires.3 l.i (omega (arith, long)) in (
      l.invariant.0,
      sofar_past a.x.setting a.x.seeds (bits a.n a.kept) (records_of a.bytes.now) a.n _ (bits_length a.n a.kept) long l.progress
          (held l.head l.m) l.i l.invariant.1 c.loop-i-test.true _ placed.1
          (sym (c.is_kept.ensures a.n c.loop-i-test.true) ∙ c.if-not-is_kept.true),
    )

pub record_at-e-requires : goal.record_at-e-requires
record_at-e-requires c =
    let long : length (records_of c.args.bytes.now) ≡ c.args.n = sym c.requires.4 in
    (record_placed c.args.bytes.now c.requires.3 c.loop-i.i (omega (arith, long))).0

pub judge_record-requires : goal.judge_record-requires
judge_record-requires c =
    let a = c.args in
    let l = c.loop-i in
    let long : length (records_of a.bytes.now) ≡ a.n = sym c.requires.4 in (
      c.requires.0,
      l.invariant.1.sound,
      sofar_room a.x.setting a.x.seeds (bits a.n a.kept) (records_of a.bytes.now) a.n _ (bits_length a.n a.kept) long l.progress
          (held l.head l.m) l.i l.invariant.1 c.loop-i-test.true c.requires.5,
      c.requires.2,
    )

pub returns-in-Err : goal.returns-in-Err
returns-in-Err c =
    let a = c.args in
    let l = c.loop-i in
    let n = c.judge_record.new in
    let left : State = held n.h n.m in
    let long : length (records_of a.bytes.now) ≡ a.n = sym c.requires.4 in
    let placed = record_placed a.bytes.now c.requires.3 l.i (omega (arith, long)) in
    record {
      same = same_then l.invariant.0 c.in-Err.ensures.same;
      differing = c.is_differing.ensures
          ∙ sofar_over a.x.setting a.x.seeds (bits a.n a.kept) (records_of a.bytes.now) a.n _ (bits_length a.n a.kept) long l.progress
          (held l.head l.m) l.i l.invariant.1 c.loop-i-test.true c.record_at-e.result (rw (← c.record_at-e.ensures) at placed.1)
          (sym (c.is_kept.ensures a.n c.loop-i-test.true) ∙ c.if-not-is_kept.false) left c.in-Err.report c.in-Err.ensures.judged;
    }

pub loop-i-preserved : goal.loop-i-preserved
loop-i-preserved c =
    let a = c.args in
    let l = c.loop-i in
    let n = c.judge_record.new in
    let left : State = held n.h n.m in
    let long : length (records_of a.bytes.now) ≡ a.n = sym c.requires.4 in
    let placed = record_placed a.bytes.now c.requires.3 l.i (omega (arith, long)) in (
      same_then l.invariant.0 c.in-Ok.ensures.same,
      sofar_more a.x.setting a.x.seeds (bits a.n a.kept) (records_of a.bytes.now) a.n _ (bits_length a.n a.kept) long l.progress
          (held l.head l.m) l.i l.invariant.1 c.loop-i-test.true c.record_at-e.result (rw (← c.record_at-e.ensures) at placed.1)
          (sym (c.is_kept.ensures a.n c.loop-i-test.true) ∙ c.if-not-is_kept.false) left c.in-Ok.counted c.in-Ok.ensures.judged,
    )

pub returns : goal.returns
returns c =
    let a = c.args in
    let l = c.loop-i in
    let long : length (records_of a.bytes.now) ≡ a.n = sym c.requires.4 in
    record {
      same = l.invariant.0;
      differing = sofar_end a.x.setting a.x.seeds (bits a.n a.kept) (records_of a.bytes.now) a.n _ (bits_length a.n a.kept) long l.progress
          (held l.head l.m) l.i l.invariant.1 (omega arith);
    }
