-- `done` is refused as the rules say, or is the rules' done but for the filters.
use mathlib.Core.Path.{sym, ◌∙◌}
use Rattle.rules.specs.Setting.{setting_of}
use Rattle.rules.specs.State.{head_of}
use Rattle.refused.proofs.Laws.{passed_ok}
use Rattle.state.proofs.filterless.Requests.{bounds}
use Rattle.lent.proofs.request.Settled.{not_ok, moved_alone}
use Rattle.lent.proofs.request.Counters.{room}
use Rattle.lent.proofs.done.Leaves.{done_refused, done_ok, done_done}
use Rattle.lent.proofs.done.done.Goals as goal

pub returns-in_err-done_refusal : goal.returns-in_err-done_refusal
returns-in_err-done_refusal c =
    let s = setting_of c.args.setting.now in
    let a = c.args in
    let back = c.from_residual in
    record {
      in_range = not_ok back.result _ _ back.ensures.1;
      settled = done_refused a.m s a.seeds.now a.head.now a.counters a.ticks.now a.rows.now a.threads.now a.at.tick a.at.bank a.at.thread back.result _ (sym c.done_refusal.ensures ∙ c.in_err-done_refusal.was) back.ensures.1;
    }

pub done-x-requires : goal.done-x-requires
done-x-requires c =
    let s = setting_of c.args.setting.now in
    let a = c.args in
    let free = passed_ok _ _ (sym c.done_refusal.ensures ∙ c.in_ok-done_refusal.was) in
    let ok = done_ok a.m s a.seeds.now a.head.now a.counters a.ticks.now a.rows.now a.threads.now a.at.tick a.at.bank a.at.thread free in
    let k = ok.0 in
    rw (c.load-s.ensures, c.load_head.ensures) (bounds c.requires k.setting, k.long.threads, k.bank_in, k.thread_in, ok.1, k.later)

pub store_clock-requires : goal.store_clock-requires
store_clock-requires c =
    let a = c.args in
    moved_alone (head_of a.head.now) c.done-x.result.head a.at.tick (rw c.load_head.ensures at c.done-x.ensures.0)

pub returns : goal.returns
returns c =
    let s = setting_of c.args.setting.now in
    let a = c.args in
    let free = passed_ok _ _ (sym c.done_refusal.ensures ∙ c.in_ok-done_refusal.was) in
    let k = (done_ok a.m s a.seeds.now a.head.now a.counters a.ticks.now a.rows.now a.threads.now a.at.tick a.at.bank a.at.thread free).0 in
    let lent = c.load-s.ensures in
    let q = rw (lent, c.load_head.ensures) at c.done-x.ensures in
    rw (lent, c.store_clock.ensures)
    record {
      in_range = (k.setting.ranges.banks_high, room a.m s a.seeds.now a.head.now a.counters a.ticks.now a.rows.now a.threads.now a.at.tick a.at.bank a.at.thread k, q.4);
      settled = done_done a.m s a.seeds.now a.head.now a.counters a.ticks.now a.rows.now a.threads.now a.at.tick a.at.bank a.at.thread free _ _ _ _ q.0 q.1 q.2 q.3;
    }
