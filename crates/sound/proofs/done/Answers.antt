-- `done` tests bank, thread, tick and what is in flight, and takes one from it.
use native.Mathlib.Omega.{arith}
use mathlib.Core.Path.{◌≡◌, sym, ap, ap₂, ◌∙◌, subst}
use Rattle.std.specs.Prelude.{Ok}
use Rattle.std.proofs.lemmas.List.{map-id}
use Rattle.rules.specs.State.{counters_used, state}
use Rattle.rules.specs.Clock.{turned_counters, turned}
use Rattle.rules.specs.Policy.{limits01}
use Rattle.rules.specs.Tested.{Sound}
use Rattle.rules.specs.Calls.{finished, Outcome, outcome, call_refusal, done_refusal, reported, step}
use Rattle.rules.proofs.Accept.{taken, done_taken, not_zero}
use Rattle.refused.specs.Passed.{passed}
use Rattle.refused.proofs.Laws.{passed_ok, passed_first, passed_second}
use Rattle.state.proofs.filterless.Requests.{narrow_widest, bounds}
use Rattle.sound.proofs.told.Tells.{place_only, over_refused_lem, over_taken, done_parts, done_sound}
use Rattle.sound.proofs.done.Goals as goal

pub returns-in_err-place_refusal : goal.returns-in_err-place_refusal
unfolding step done_refusal
returns-in_err-place_refusal c =
    let a = c.args in
    let entry = state a.h.now a.counters.now a.ticks.now a.rows.now a.threads.now in
    let place = place_only limits01 a.s a.seeds.now entry c.requires.0 c.requires.1 a.at.tick a.at.bank a.at.thread in
    let first = passed_first (call_refusal limits01 a.s a.seeds.now entry a.at.tick a.at.bank a.at.thread) _ _ (ap passed place ∙ sym c.place_refusal.ensures ∙ c.in_err-place_refusal.was) in
    over_refused_lem a.s (done_refusal limits01 a.s a.seeds.now entry a.at.tick a.at.bank a.at.thread) entry _ _ _ first c.from_residual.ensures.1 c.requires.1

pub flying_refusal-requires : goal.flying_refusal-requires
flying_refusal-requires c =
    let a = c.args in
    let entry = state a.h.now a.counters.now a.ticks.now a.rows.now a.threads.now in
    let place = place_only limits01 a.s a.seeds.now entry c.requires.0 c.requires.1 a.at.tick a.at.bank a.at.thread in
    let free = passed_ok _ _ (ap passed place ∙ sym c.place_refusal.ensures ∙ c.in_ok-place_refusal.was) in
    let k = taken limits01 a.s a.seeds.now entry a.at.tick a.at.bank a.at.thread free in
    (k.bank_in, k.thread_in, k.setting.ranges.banks_high, k.setting.ranges.threads_high, k.long.threads)

pub done-x-requires : goal.done-x-requires
unfolding done_refusal
done-x-requires c =
    let a = c.args in
    let entry = state a.h.now a.counters.now a.ticks.now a.rows.now a.threads.now in
    let place = place_only limits01 a.s a.seeds.now entry c.requires.0 c.requires.1 a.at.tick a.at.bank a.at.thread in
    let free = passed_ok _ _ (ap passed place ∙ sym c.place_refusal.ensures ∙ c.in_ok-place_refusal.was) in
    let k = taken limits01 a.s a.seeds.now entry a.at.tick a.at.bank a.at.thread free in
    let flies : c.flying_refusal.result ≡ Ok tt = grind arith in
    let second = passed_second (call_refusal limits01 a.s a.seeds.now entry a.at.tick a.at.bank a.at.thread) _ _ (ap passed place ∙ sym c.place_refusal.ensures ∙ c.in_ok-place_refusal.was) in
    let r = done_taken limits01 a.s a.seeds.now entry a.at.tick a.at.bank a.at.thread (passed_ok _ _ (second ∙ sym c.flying_refusal.ensures ∙ flies)) in
    (bounds narrow_widest k.setting, k.long.threads, k.bank_in, k.thread_in, not_zero _ r.1, k.later)

pub turn-requires : goal.turn-requires
turn-requires c =
    let a = c.args in
    let entry = state a.h.now a.counters.now a.ticks.now a.rows.now a.threads.now in
    let place = place_only limits01 a.s a.seeds.now entry c.requires.0 c.requires.1 a.at.tick a.at.bank a.at.thread in
    let free = passed_ok _ _ (ap passed place ∙ sym c.place_refusal.ensures ∙ c.in_ok-place_refusal.was) in
    let k = taken limits01 a.s a.seeds.now entry a.at.tick a.at.bank a.at.thread free in
    (k.setting.ranges.banks_high, k.long.counters, c.done-x.ensures.4)

pub returns : goal.returns
unfolding step done_refusal
returns c =
    let a = c.args in
    let entry = state a.h.now a.counters.now a.ticks.now a.rows.now a.threads.now in
    let place = place_only limits01 a.s a.seeds.now entry c.requires.0 c.requires.1 a.at.tick a.at.bank a.at.thread in
    let free = passed_ok _ _ (ap passed place ∙ sym c.place_refusal.ensures ∙ c.in_ok-place_refusal.was) in
    let k = taken limits01 a.s a.seeds.now entry a.at.tick a.at.bank a.at.thread free in
    let flies : c.flying_refusal.result ≡ Ok tt = grind arith in
    let second = passed_second (call_refusal limits01 a.s a.seeds.now entry a.at.tick a.at.bank a.at.thread) _ _ (ap passed place ∙ sym c.place_refusal.ensures ∙ c.in_ok-place_refusal.was) in
    let performs : Outcome = reported a.s (turned a.s entry a.at.tick) a.at.bank a.at.thread in
    let turned_by = (simp map-id at c.turn.ensures) ∙ ap₂ (λ x y. turned_counters (counters_used a.s) x y a.counters.now) c.done-x.ensures.2 c.done-x.ensures.3 in
    let z = state c.done-x.result.head c.turn.new.counters a.ticks.now a.rows.now c.done-x.new.threads in
    let after : outcome finished z ≡ performs =
    done_parts a.s entry a.at.tick a.at.bank a.at.thread c.done-x.result.head c.turn.new.counters c.done-x.new.threads c.done-x.ensures.0 turned_by c.done-x.ensures.1 in
    over_taken a.s (done_refusal limits01 a.s a.seeds.now entry a.at.tick a.at.bank a.at.thread) entry performs _ z
    (passed_ok _ _ (second ∙ sym c.flying_refusal.ensures ∙ flies)) after
    (subst (λ o. Sound a.s o.state) (sym after) (done_sound limits01 a.s a.seeds.now entry a.at.tick a.at.bank a.at.thread k))
