-- `request` tests bank, thread and tick, and decides.
use Rattle.std.proofs.Common.{rules}
use mathlib.Core.Path.{refl, sym, ap, ◌∙◌}
use native.Mathlib.Omega.{arith}
use Rattle.std.proofs.lemmas.List.{map-id}
use Rattle.sound.specs.Held.{held}
use Rattle.rules.specs.Clock.{turned}
use Rattle.rules.specs.Hash.{places}
use Rattle.rules.specs.Policy.{limits01, narrow}
use Rattle.rules.specs.Calls.{Outcome, call_refusal, requested, step}
use Rattle.rules.proofs.Accept.{taken}
use Rattle.refused.specs.Passed.{passed}
use Rattle.refused.proofs.Laws.{passed_ok}
use Rattle.sound.proofs.told.Tells.{place_only, told_refused, told_taken}
use Rattle.sound.proofs.requested.request.Goals as goal

pub returns-in_err-place_refusal : goal.returns-in_err-place_refusal
unfolding step
returns-in_err-place_refusal c =
    let a = c.args in
    let entry = held a.h.now a.m.now in
    let place = place_only limits01 a.s a.seeds.now entry c.requires.0 c.requires.1 a.at.tick a.at.bank a.at.thread in
    record {
      same = search rules;
      told = told_refused a.s (call_refusal limits01 a.s a.seeds.now entry a.at.tick a.at.bank a.at.thread) entry _ _ _
          (ap passed place ∙ sym c.place_refusal.ensures ∙ c.in_err-place_refusal.was) c.from_residual.ensures.1 c.requires.1;
    }

pub offset_bounds-banks-at : goal.offset_bounds-banks-at
offset_bounds-banks-at c =
    let a = c.args in
    let entry = held a.h.now a.m.now in
    let place = place_only limits01 a.s a.seeds.now entry c.requires.0 c.requires.1 a.at.tick a.at.bank a.at.thread in
    let free = passed_ok _ _ (ap passed place ∙ sym c.place_refusal.ensures ∙ c.in_ok-place_refusal.was) in
    let k = taken limits01 a.s a.seeds.now entry a.at.tick a.at.bank a.at.thread free in
    omega (arith, k.bank_in, k.setting.ranges.banks_high)

pub bounds-banks-at : goal.bounds-banks-at
bounds-banks-at c =
    let a = c.args in
    let entry = held a.h.now a.m.now in
    let place = place_only limits01 a.s a.seeds.now entry c.requires.0 c.requires.1 a.at.tick a.at.bank a.at.thread in
    let free = passed_ok _ _ (ap passed place ∙ sym c.place_refusal.ensures ∙ c.in_ok-place_refusal.was) in
    let k = taken limits01 a.s a.seeds.now entry a.at.tick a.at.bank a.at.thread free in
    omega (arith, k.bank_in, k.setting.ranges.banks_high)

pub request-d-requires : goal.request-d-requires
request-d-requires c =
    let a = c.args in
    let entry = held a.h.now a.m.now in
    let place = place_only limits01 a.s a.seeds.now entry c.requires.0 c.requires.1 a.at.tick a.at.bank a.at.thread in
    let free = passed_ok _ _ (ap passed place ∙ sym c.place_refusal.ensures ∙ c.in_ok-place_refusal.was) in
    simp map-id (free, refl, c.requires.2)

pub returns : goal.returns
unfolding step
returns c =
    let a = c.args in
    let entry = held a.h.now a.m.now in
    let performs : Outcome = requested narrow a.s (λ f. places a.seeds.now a.row) (turned a.s entry a.at.tick) a.at.bank a.at.thread a.row in
    let place = place_only limits01 a.s a.seeds.now entry c.requires.0 c.requires.1 a.at.tick a.at.bank a.at.thread in
    let free = passed_ok _ _ (ap passed place ∙ sym c.place_refusal.ensures ∙ c.in_ok-place_refusal.was) in
    let e = simp map-id at c.request-d.ensures.outcome_is in
    let sound = simp map-id at c.request-d.ensures.sound in
    record {
      same = c.request-d.ensures.same;
      told = told_taken a.s (call_refusal limits01 a.s a.seeds.now entry a.at.tick a.at.bank a.at.thread) entry performs c.request-d.result.answer
          (held c.request-d.result.head c.request-d.new.m) free e sound;
    }
