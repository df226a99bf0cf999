-- `setup` is refused as the rules say, or clears all but the filters.
use mathlib.Core.Path.{sym, ◌∙◌}
use native.Mathlib.Omega.{arith}
use Rattle.rules.specs.Setting.{setting_of}
use Rattle.refused.proofs.Laws.{passed_ok}
use Rattle.state.proofs.filterless.Requests.{bounds}
use Rattle.lent.proofs.request.Settled.{not_ok}
use Rattle.lent.proofs.setup.Leaves.{setup_refused, setup_ok, setup_room, setup_done}
use Rattle.lent.proofs.setup.setup.Goals as goal

pub returns-in_err-lent_refusal : goal.returns-in_err-lent_refusal
returns-in_err-lent_refusal c =
    let s = setting_of c.args.setting.now in
    let a = c.args in
    let back = c.from_residual in
    record {
      in_range = not_ok back.result _ _ back.ensures.1;
      settled = setup_refused a.m s a.seeds.now a.head.now a.counters a.ticks.now a.rows.now a.threads.now back.result _ (sym c.lent_refusal.ensures ∙ c.in_err-lent_refusal.was) back.ensures.1;
    }

pub fresh-requires : goal.fresh-requires
fresh-requires c =
    let s = setting_of c.args.setting.now in
    let a = c.args in
    let free = passed_ok _ _ (sym c.lent_refusal.ensures ∙ c.in_ok-lent_refusal.was) in
    let k = setup_ok a.m s a.seeds.now a.head.now a.counters a.ticks.now a.rows.now a.threads.now free in
    rw c.load-s.ensures (bounds c.requires k.setting, k.long.ticks, k.long.rows, k.long.threads)

pub overflow_mul-result : goal.overflow_mul-result
overflow_mul-result c =
    let s = setting_of c.args.setting.now in
    let a = c.args in
    let free = passed_ok _ _ (sym c.lent_refusal.ensures ∙ c.in_ok-lent_refusal.was) in
    let k = setup_ok a.m s a.seeds.now a.head.now a.counters a.ticks.now a.rows.now a.threads.now free in
    rw c.load-s.ensures (omega (arith, k.setting.ranges.banks_high))

pub returns : goal.returns
returns c =
    let s = setting_of c.args.setting.now in
    let a = c.args in
    let free = passed_ok _ _ (sym c.lent_refusal.ensures ∙ c.in_ok-lent_refusal.was) in
    let lent = c.load-s.ensures in
    let f = rw lent at c.fresh.ensures in
    rw (lent, c.store_head.ensures)
    record {
      in_range = setup_room a.m s a.seeds.now a.head.now a.counters a.ticks.now a.rows.now a.threads.now free;
      settled = setup_done a.m s a.seeds.now a.head.now a.counters a.ticks.now a.rows.now a.threads.now free _ _ _ _ f.0 f.1 f.2 f.3;
    }
