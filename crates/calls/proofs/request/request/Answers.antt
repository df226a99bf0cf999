-- `request` is refused as the rules say, or is the rules' request.
use Rattle.std.proofs.Common.{rules}
use mathlib.Core.Path.{sym, ap, ◌∙◌}
use mathlib.Core.List.{map}
use lib.ListN.{get_or}
use Rattle.std.proofs.lemmas.List.{length-map}
use Rattle.rules.specs.State.{State}
use Rattle.sound.specs.Held.{held_by}
use Rattle.lent.proofs.request.Settled.{asks, request_refused, in_head, request_free, request_held, request_left}
use Rattle.calls.proofs.request.request.Goals as goal

pub tested-checked-requires : goal.tested-checked-requires
tested-checked-requires g c = rw c.requires g.met.C.Counter.threshold_most

pub returns-in_err-table : goal.returns-in_err-table
returns-in_err-table g c =
    let a = c.args in
    let q = asks g.C.Counter.limits a.setting.now a.seeds.now a.head.now (map g.C.Counter.value a.counters.now) a.ticks.now a.rows.now a.threads.now a.at.tick a.at.bank a.at.thread a.row a.out.now in
    let test = rw (sym (length-map a.counters.now g.C.Counter.value)) at c.tested-checked.ensures.refusal in
    let back = c.from_residual in
    request_refused q _ _ c.requires test back.result _ c.in_err-table.was back.ensures.1

pub bank_word-stored-requires : goal.bank_word-stored-requires
bank_word-stored-requires g c =
    let a = c.args in
    let q = asks g.C.Counter.limits a.setting.now a.seeds.now a.head.now (map g.C.Counter.value a.counters.now) a.ticks.now a.rows.now a.threads.now a.at.tick a.at.bank a.at.thread a.row a.out.now in
    let test = rw (sym (length-map a.counters.now g.C.Counter.value)) at c.tested-checked.ensures.refusal in
    in_head q _ _ c.requires test _ c.in_ok-table.was

pub request-d-requires : goal.request-d-requires
request-d-requires g c =
    let a = c.args in
    let q = asks g.C.Counter.limits a.setting.now a.seeds.now a.head.now (map g.C.Counter.value a.counters.now) a.ticks.now a.rows.now a.threads.now a.at.tick a.at.bank a.at.thread a.row a.out.now in
    let test = rw (sym (length-map a.counters.now g.C.Counter.value)) at c.tested-checked.ensures.refusal in (
      request_free q _ _ c.requires test _ c.in_ok-table.was _ _ c.load-s.ensures c.load_head-h.ensures,
      c.bank_word-stored.ensures ∙ ap (λ x. get_or x.bank a.at.bank 0) (sym c.load_head-h.ensures),
      c.in_ok-table.ensures.table,
    )

pub told-requires : goal.told-requires
told-requires g c =
    let a = c.args in
    let q = asks g.C.Counter.limits a.setting.now a.seeds.now a.head.now (map g.C.Counter.value a.counters.now) a.ticks.now a.rows.now a.threads.now a.at.tick a.at.bank a.at.thread a.row a.out.now in
    let test = rw (sym (length-map a.counters.now g.C.Counter.value)) at c.tested-checked.ensures.refusal in
    let after : State = held_by g.C.Counter.value c.request-d.result.head c.request-d.new.m in
    request_held q _ _ c.requires test _ c.in_ok-table.was _ _ c.load-s.ensures c.load_head-h.ensures c.request-d.result.answer after c.request-d.ensures.outcome_is

pub returns : goal.returns
returns g c =
    let a = c.args in
    let q = asks g.C.Counter.limits a.setting.now a.seeds.now a.head.now (map g.C.Counter.value a.counters.now) a.ticks.now a.rows.now a.threads.now a.at.tick a.at.bank a.at.thread a.row a.out.now in
    let test = rw (sym (length-map a.counters.now g.C.Counter.value)) at c.tested-checked.ensures.refusal in
    let after : State = held_by g.C.Counter.value c.request-d.result.head c.request-d.new.m in
    let z = (request_left q _ _ c.requires test _ c.in_ok-table.was _ _ c.load-s.ensures c.load_head-h.ensures c.request-d.result.answer after c.request-d.ensures.outcome_is) in
    search (rules, c.told.ensures.0, c.told.ensures.1, z)
