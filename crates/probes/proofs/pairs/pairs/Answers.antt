-- `pairs::pairs`: what is known of the pairs so far.
use mathlib.Core.Path.{◌≡◌, sym, ap₂, ◌∙◌}
use mathlib.Core.Bool.{false, ◌&&◌}
use Prim.Native.Nat.{◌+◌, ◌-◌, ◌^◌, ◌<◌}
use native.Mathlib.Omega.{arith}
use lib.ListN.{get_or, length}
use Rattle.std.proofs.Common.{length-append}
use Rattle.std.proofs.lemmas.Slice.Zip.{zip_turn, zip_end}
use Rattle.probe_rules.specs.Probes.{lent, on_time}
use Rattle.probes.specs.Pairs.{early}
use Rattle.probes.proofs.pairs.Pass.{both_early, passed_none, passed_more}
use Rattle.probes.proofs.pairs.All.{late_pair, passed_all, alike_by_rows}
use Rattle.probes.proofs.pairs.pairs.Goals as goal

pub loop-first-init : goal.loop-first-init
loop-first-init c = passed_none _ _

pub returns-then-not-on_time : goal.returns-then-not-on_time
returns-then-not-on_time c =
    let ts = c.x.inside.ticks.now in
    let us = c.y.inside.ticks.now in
    let i = length c.loop-first.yielded in
    let turn = zip_turn ts us c.loop-first.yielded c.into_iter-first-iterator.result c.loop-first.first-iterator c.next.new.self c.next.result (cc) (cc) c.loop-first.yielded_by _ c.in-Some.is c.next.ensures.steps in
    let late : (on_time ts i && on_time us i) ≡ false = ap₂ (λ a b. early a && early b) (sym (turn.2 0)) (sym (turn.3 0)) ∙ sym c.on_time.ensures ∙ c.if-not-on_time.true in
    rw (← c.x.view_is, ← c.y.view_is) (late_pair (lent ts c.x.inside.rows.now (length ts)) (lent us c.y.inside.rows.now (length us)) i turn.0 turn.1 late)

pub loop-first-preserved : goal.loop-first-preserved
loop-first-preserved c =
    let ts = c.x.inside.ticks.now in
    let us = c.y.inside.ticks.now in
    let i = length c.loop-first.yielded in
    let turn = zip_turn ts us c.loop-first.yielded c.into_iter-first-iterator.result c.loop-first.first-iterator c.next.new.self c.next.result (cc) (cc) c.loop-first.yielded_by _ c.in-Some.is c.next.ensures.steps in
    let both = both_early c.in-Some.first.now c.in-Some.second.now (sym c.on_time.ensures ∙ c.if-not-on_time.false) in
    let first : get_or ts i 0 < 2 ^ 62 = omega (arith, both.0, turn.2 0) in
    let second : get_or us i 0 < 2 ^ 62 = omega (arith, both.1, turn.3 0) in
    let d = ap₂ (λ a b. b + 2 ^ 62 - a) (turn.2 0) (turn.3 0) in
    rw (length-append, c.max-greatest.ensures, c.min-least.ensures) (passed_more ts us i c.loop-first.greatest c.loop-first.least _ first second d c.loop-first.invariant)

pub returns : goal.returns
returns c =
    let ts = c.x.inside.ticks.now in
    let us = c.y.inside.ticks.now in
    let end = zip_end ts us c.loop-first.yielded c.into_iter-first-iterator.result c.loop-first.first-iterator c.next.new.self c.next.result (cc) (cc) c.loop-first.yielded_by c.in-None.is c.next.ensures.steps in
    rw (← c.x.view_is, ← c.y.view_is) (
    passed_all (lent ts c.x.inside.rows.now (length ts)) (lent us c.y.inside.rows.now (length us)) _ _ _ _ end
    (alike_by_rows (lent ts c.x.inside.rows.now (length ts)) (lent us c.y.inside.rows.now (length us)) c.x.invariant c.y.invariant c.same_rows.ensures)
    c.loop-first.invariant)
