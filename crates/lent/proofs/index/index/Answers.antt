-- `index` is refused as the rules say, or is the rules' index reading but for the filters.
use mathlib.Core.Path.{sym, ◌∙◌}
use native.Mathlib.Omega.{arith}
use Rattle.rules.specs.Setting.{setting_of}
use Rattle.rules.specs.State.{head_of}
use Rattle.refused.proofs.Laws.{passed_ok}
use Rattle.state.proofs.filterless.Requests.{bounds}
use Rattle.lent.proofs.request.Settled.{not_ok, moved_alone}
use Rattle.lent.proofs.request.Counters.{room}
use Rattle.lent.proofs.index.Leaves.{index_refused, index_ok, index_done}
use Rattle.lent.proofs.index.index.Goals as goal

pub returns-in_err-call_refusal : goal.returns-in_err-call_refusal
returns-in_err-call_refusal c =
    let s = setting_of c.args.setting.now in
    let a = c.args in
    let back = c.from_residual in
    record {
      in_range = not_ok back.result _ _ back.ensures.1;
      settled = index_refused a.m s a.seeds.now a.head.now a.counters a.ticks.now a.rows.now a.threads.now a.at.tick a.at.bank a.at.thread a.out.now back.result _ (sym c.call_refusal.ensures ∙ c.in_err-call_refusal.was) back.ensures.1;
    }

pub turn-x-requires : goal.turn-x-requires
turn-x-requires c =
    let s = setting_of c.args.setting.now in
    let a = c.args in
    let free = passed_ok _ _ (sym c.call_refusal.ensures ∙ c.in_ok-call_refusal.was) in
    let k = index_ok a.m s a.seeds.now a.head.now a.counters a.ticks.now a.rows.now a.threads.now a.at.tick a.at.bank a.at.thread free in
    rw (c.load-s.ensures, c.load_head.ensures) (bounds c.requires k.setting, k.long.threads, k.later)

pub index-y-requires : goal.index-y-requires
index-y-requires c =
    let s = setting_of c.args.setting.now in
    let a = c.args in
    let free = passed_ok _ _ (sym c.call_refusal.ensures ∙ c.in_ok-call_refusal.was) in
    let k = index_ok a.m s a.seeds.now a.head.now a.counters a.ticks.now a.rows.now a.threads.now a.at.tick a.at.bank a.at.thread free in
    let kept = c.turn-x.auto.threads in
    rw c.load-s.ensures (bounds c.requires k.setting, omega (arith, k.long.threads, kept), k.bank_in, k.thread_in)

pub store_clock-requires : goal.store_clock-requires
store_clock-requires c =
    let a = c.args in
    moved_alone (head_of a.head.now) c.turn-x.result.head a.at.tick (rw c.load_head.ensures at c.turn-x.ensures.0)

pub returns : goal.returns
returns c =
    let s = setting_of c.args.setting.now in
    let a = c.args in
    let free = passed_ok _ _ (sym c.call_refusal.ensures ∙ c.in_ok-call_refusal.was) in
    let k = index_ok a.m s a.seeds.now a.head.now a.counters a.ticks.now a.rows.now a.threads.now a.at.tick a.at.bank a.at.thread free in
    let lent = c.load-s.ensures in
    let t = rw (lent, c.load_head.ensures) at c.turn-x.ensures in
    let y = rw lent at c.index-y.ensures in
    rw (lent, c.store_clock.ensures)
    record {
      in_range = (k.setting.ranges.banks_high, room a.m s a.seeds.now a.head.now a.counters a.ticks.now a.rows.now a.threads.now a.at.tick a.at.bank a.at.thread k, t.4);
      settled = index_done a.m s a.seeds.now a.head.now a.counters a.ticks.now a.rows.now a.threads.now a.at.tick a.at.bank a.at.thread free a.out.now _ _ _ _ _ _ _ t.0 t.1 t.2 t.3 y.0 y.1 y.2;
    }
