-- `first_match` meets its contract. The invariant: what is to be found is found from place p on.
use Rattle.std.proofs.Common.{◌-◌, ◌<◌, sym, ◌∙◌, arith}
use Rattle.rules.proofs.Ring.{back_lt}
use Rattle.history.proofs.Search.{first_part, Onward, wraps, steps, back_more, whole, on_at, none_at, old_at, hit_at, found_none, found_some}
use Rattle.history.proofs.first_match.Goals as goal
use Rattle.history.proofs.first_match.Goals.{then-p-low+else-low-next, else-p-low}

pub loop-p-init : goal.loop-p-init
loop-p-init c =
    let a = c.args in
    (c.place_before-p.ensures.1, first_part a.h a.next c.place_before-p.result (omega arith) c.place_before-p.ensures.0, whole a.h a.td a.next a.ticks.now a.rows.now a.word a.t (omega arith) c.place_before-p.result c.place_before-p.ensures.0)

pub loop-p-smaller : goal.loop-p-smaller
loop-p-smaller c =
    let a = c.args in
    let l = c.loop-p in
    let o : Onward a.h a.next l.p c.if-p-low.p c.if-p-low.low =
    elim c.if-p-low.branch [
      | then-p-low+else-low-next w ↦ wraps a.h a.next l.p l.low c.if-p-low.p c.if-p-low.low (omega arith) l.invariant.0 l.invariant.1 w.if-p-low.true w.if-low-next.false w.p-is w.low-is
      | else-p-low w ↦ steps a.h a.next l.p l.low c.if-p-low.p c.if-p-low.low (omega arith) l.invariant.0 l.invariant.1 w.if-p-low.false w.p-is w.low-is
    ]
    in
    let nh : a.next < a.h = omega arith in
    let more = back_more a.h a.next c.loop-p.p (c.if-p-low.p - 1) nh c.loop-p.invariant.0 o.before o.other in
    let less = back_lt a.h a.next nh (c.if-p-low.p - 1) o.inside in
    omega arith

pub loop-p-preserved : goal.loop-p-preserved
loop-p-preserved c =
    let a = c.args in
    let l = c.loop-p in
    let o : Onward a.h a.next l.p c.if-p-low.p c.if-p-low.low =
    elim c.if-p-low.branch [
      | then-p-low+else-low-next w ↦ wraps a.h a.next l.p l.low c.if-p-low.p c.if-p-low.low (omega arith) l.invariant.0 l.invariant.1 w.if-p-low.true w.if-low-next.false w.p-is w.low-is
      | else-p-low w ↦ steps a.h a.next l.p l.low c.if-p-low.p c.if-p-low.low (omega arith) l.invariant.0 l.invariant.1 w.if-p-low.false w.p-is w.low-is
    ]
    in (
      o.inside,
      o.part,
      sym (on_at a.h a.td a.next a.ticks.now a.rows.now a.word a.t (omega arith) c.loop-p.p c.loop-p.invariant.0 (c.if-p-low.p - 1) o.before o.other c.if-rows-p.false) ∙ c.loop-p.invariant.2,
    )

pub returns-then-ticks-p : goal.returns-then-ticks-p
returns-then-ticks-p c =
    let a = c.args in
    (found_none a.h _ (sym c.loop-p.invariant.2 ∙ old_at a.h a.td a.next a.ticks.now a.rows.now a.word a.t (omega arith) c.loop-p.p c.loop-p.invariant.0 c.saturating_sub-limit.result c.saturating_sub-limit.ensures c.requires.4 c.requires.5 c.if-ticks-p.true), tt)

pub returns-then-rows-p : goal.returns-then-rows-p
returns-then-rows-p c =
    let a = c.args in
    (found_some a.h c.loop-p.p _ (sym c.loop-p.invariant.2 ∙ hit_at a.h a.td a.next a.ticks.now a.rows.now a.word a.t (omega arith) c.loop-p.p c.loop-p.invariant.0 c.saturating_sub-limit.result c.saturating_sub-limit.ensures c.requires.4 c.requires.5 c.if-ticks-p.false c.if-rows-p.true) c.loop-p.invariant.0, c.loop-p.invariant.0)

pub returns-then-low-next : goal.returns-then-low-next
returns-then-low-next c =
    let a = c.args in
    (found_none a.h _ (sym c.loop-p.invariant.2 ∙ none_at a.h a.td a.next a.ticks.now a.rows.now a.word a.t (omega arith) c.loop-p.p c.loop-p.invariant.0 (c.if-p-low.true ∙ c.if-low-next.true) c.if-rows-p.false), tt)
