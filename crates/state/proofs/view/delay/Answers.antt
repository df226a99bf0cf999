-- `delay` searches the history where a filter blacklists the row.
use Rattle.std.proofs.Common.{◌≡◌, ◌&&◌, false, refl}
use lib.Dec.{ltb}
use borrow.Author.Tests.{lt-ltb, le-ltb}
use Rattle.history.proofs.Found.{found_fits}
use Rattle.state.proofs.view.Parts.{searchable, delay_found}
use Rattle.state.proofs.view.delay.Goals as goal
use Rattle.state.proofs.view.delay.Goals.{else-active-s-via-then-active-s+else-other-s, else-active-s-via-else-active-s}

pub first_match-found-requires : goal.first_match-found-requires
first_match-found-requires c =
    let a = c.args in
    let p = c.requires in
    let e = c.history_length-places.ensures in
    let q = searchable a.s a.h a.ticks.now p.1 in
    rw e (p.1.in_ring, p.2, p.3, p.5, q.0, q.1)

pub delay_end-requires : goal.delay_end-requires
delay_end-requires c =
    let a = c.args in
    let p = c.requires in
    let e = c.history_length-places.ensures in (
      p.0.ranges.td_high,
      found_fits c.history_length-places.result a.s.td a.h.next a.ticks.now a.rows.now c.row_word.result a.h.last (rw e p.1.in_ring) (rw e p.2) p.5 c.first_match-found.result c.first_match-found.ensures.0,
    )

pub returns : goal.returns
returns c =
    let a = c.args in
    let searched : (ltb a.active a.s.n && ltb a.other a.s.n) ≡ false =
    elim c.else-active-s.branch [
      | else-active-s-via-then-active-s+else-other-s w ↦ rw (lt-ltb _ _ w.if-active-s.true, le-ltb _ _ w.if-other-s.false) refl
      | else-active-s-via-else-active-s w ↦ rw (le-ltb _ _ w.if-active-s.false) refl
    ]
    in
    delay_found a.s a.h a.ticks.now a.rows.now a.bank a.row _ c.history_length-places.result c.first_match-found.result c.row_word.result c.delay_end.result
    searched c.history_length-places.ensures c.row_word.ensures c.first_match-found.ensures.0 c.delay_end.ensures
