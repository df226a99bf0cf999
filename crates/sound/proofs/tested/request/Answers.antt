-- `request` turns the state to the tick, decides by the estimates that it reads, and makes the activation of an opened request.
use Rattle.std.proofs.Common.{rules}
use mathlib.Core.Path.{◌≡◌, sym, ap, ◌∙◌}
use mathlib.Core.Bool.{true, false}
use native.Mathlib.Omega.{arith}
use lib.ListN.{get_or}
use Rattle.std.proofs.lemmas.List.{length-map}
use Rattle.head.specs.Head.{moved_head}
use Rattle.rules.specs.Setting.{seeds_in_range}
use Rattle.rules.specs.Decision.{opens, answer_of}
use Rattle.rules.proofs.Tests.{is_true}
use Rattle.state.proofs.filterless.Requests.{bounds, ready_at, epoch_at, few_at, waits_at, opens_at}
use Rattle.sound.specs.Held.{held_by}
use Rattle.sound.proofs.tested.Asking.{within, asked, read}
use Rattle.sound.proofs.tested.request.Goals as goal

pub turn-x-requires : goal.turn-x-requires
turn-x-requires g c =
    let a = c.args in
    let law = g.met.C.Counter in
    let q = asked g.C.Counter.limits (within law.threshold_most law.history_most) a.s a.seeds.now (held_by g.C.Counter.value a.h a.m.now) a.at.tick a.at.bank a.at.thread a.row c.requires.0 in
    let k = q.taken in
    (bounds q.widest k.setting, k.long.threads, k.later)

pub places-four-requires : goal.places-four-requires
places-four-requires g c =
    let a = c.args in
    let law = g.met.C.Counter in
    let q = asked g.C.Counter.limits (within law.threshold_most law.history_most) a.s a.seeds.now (held_by g.C.Counter.value a.h a.m.now) a.at.tick a.at.bank a.at.thread a.row c.requires.0 in
    (is_true (seeds_in_range a.seeds.now) q.taken.setting.seeds_ok, c.requires.2)

pub look-e-requires : goal.look-e-requires
look-e-requires g c =
    let a = c.args in
    let law = g.met.C.Counter in
    let q = asked g.C.Counter.limits (within law.threshold_most law.history_most) a.s a.seeds.now (held_by g.C.Counter.value a.h a.m.now) a.at.tick a.at.bank a.at.thread a.row c.requires.0 in
    let k = q.taken in
    let four = c.places-four.ensures.1 in
    (k.setting.ranges.banks_high, omega (arith, k.long.counters, length-map a.m.now.counters.now g.C.Counter.value), c.turn-x.ensures.4, k.bank_in, four, four)

pub decide_by-d-requires : goal.decide_by-d-requires
unfolding moved_head
decide_by-d-requires g c =
    let a = c.args in
    let law = g.met.C.Counter in
    let q = asked g.C.Counter.limits (within law.threshold_most law.history_most) a.s a.seeds.now (held_by g.C.Counter.value a.h a.m.now) a.at.tick a.at.bank a.at.thread a.row c.requires.0 in
    let t = c.turn-x.ensures in
    let l = c.look-e.ensures in
    let r = read q _ _ _ _ _ _ _ _ t.0 t.1 t.2 t.3 c.places-four.ensures.0 l.0 l.1 l.2 in
    (ready_at q r, epoch_at q r, c.requires.1 ∙ ap (λ d. get_or d.bank a.at.bank 0) (sym t.0))

pub returns-then-not-opens : goal.returns-then-not-opens
returns-then-not-opens g c =
    let a = c.args in
    let law = g.met.C.Counter in
    let q = asked g.C.Counter.limits (within law.threshold_most law.history_most) a.s a.seeds.now (held_by g.C.Counter.value a.h a.m.now) a.at.tick a.at.bank a.at.thread a.row c.requires.0 in
    let t = c.turn-x.ensures in
    let l = c.look-e.ensures in
    let r = read q _ _ _ _ _ _ _ _ t.0 t.1 t.2 t.3 c.places-four.ensures.0 l.0 l.1 l.2 in
    let waits : opens c.decide_by-d.result ≡ false = sym c.opens.ensures ∙ c.if-not-opens.true in
    let z = waits_at q r c.decide_by-d.result c.decide_by-d.ensures c.answer.result waits c.answer.ensures in
    record { same = search rules; outcome_is = z.0; sound = z.1 }

pub activate-head-requires : goal.activate-head-requires
activate-head-requires g c =
    let a = c.args in
    let law = g.met.C.Counter in
    let q = asked g.C.Counter.limits (within law.threshold_most law.history_most) a.s a.seeds.now (held_by g.C.Counter.value a.h a.m.now) a.at.tick a.at.bank a.at.thread a.row c.requires.0 in
    let t = c.turn-x.ensures in
    let l = c.look-e.ensures in
    let r = read q _ _ _ _ _ _ _ _ t.0 t.1 t.2 t.3 c.places-four.ensures.0 l.0 l.1 l.2 in
    let opened : opens c.decide_by-d.result ≡ true = sym c.opens.ensures ∙ c.if-not-opens.false in
    (ready_at q r, few_at q r (ap opens (sym c.decide_by-d.ensures) ∙ opened))

pub threshold-requires : goal.threshold-requires
threshold-requires g c =
    let a = c.args in
    let law = g.met.C.Counter in
    let q = asked g.C.Counter.limits (within law.threshold_most law.history_most) a.s a.seeds.now (held_by g.C.Counter.value a.h a.m.now) a.at.tick a.at.bank a.at.thread a.row c.requires.0 in
    q.taken.setting.ranges.n_high

pub count-requires : goal.count-requires
count-requires g c =
    let a = c.args in
    let law = g.met.C.Counter in
    let q = asked g.C.Counter.limits (within law.threshold_most law.history_most) a.s a.seeds.now (held_by g.C.Counter.value a.h a.m.now) a.at.tick a.at.bank a.at.thread a.row c.requires.0 in
    let k = q.taken in
    let four = c.places-four.ensures.1 in
    let long = length-map a.m.now.counters.now g.C.Counter.value in (
      omega (arith, k.bank_in, k.setting.ranges.banks_high),
      omega (arith, k.bank_in, k.long.counters, long, c.look-e.auto),
      omega arith,
      four,
      four,
    )

pub returns : goal.returns
returns g c =
    let a = c.args in
    let law = g.met.C.Counter in
    let q = asked g.C.Counter.limits (within law.threshold_most law.history_most) a.s a.seeds.now (held_by g.C.Counter.value a.h a.m.now) a.at.tick a.at.bank a.at.thread a.row c.requires.0 in
    let t = c.turn-x.ensures in
    let l = c.look-e.ensures in
    let r = read q _ _ _ _ _ _ _ _ t.0 t.1 t.2 t.3 c.places-four.ensures.0 l.0 l.1 l.2 in
    let opened : opens c.decide_by-d.result ≡ true = sym c.opens.ensures ∙ c.if-not-opens.false in
    let raised = rw c.threshold.ensures at c.count.ensures.0 in
    let z =
    opens_at q r c.decide_by-d.result c.decide_by-d.ensures c.activate-head.result _ _ _ c.activate-head.ensures c.answer-2.result _ _ opened raised
    (c.number-estimate.ensures ∙ c.count.ensures.1) (c.answer-2.ensures ∙ ap (answer_of c.decide_by-d.result) c.openings_left.ensures) in
    record { same = search rules; outcome_is = z.0; sound = z.1 }
