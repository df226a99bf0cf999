-- `setup` is refused as the rules say, or clears the used parts.
use Rattle.std.proofs.Common.{rules}
use mathlib.Core.Path.{sym, ap, ◌∙◌}
use native.Mathlib.Omega.{arith}
use borrow.Author.Tests.{eqb-true}
use Rattle.std.proofs.lemmas.List.{map-id}
use Rattle.rules.specs.State.{state, fresh}
use Rattle.sound.specs.Held.{held}
use Rattle.rules.specs.Policy.{limits01}
use Rattle.rules.proofs.Accept.{set_up_lem}
use Rattle.refused.specs.Passed.{passed}
use Rattle.refused.proofs.Laws.{passed_ok}
use Rattle.refusal.proofs.Refusals.{setup_test_lem}
use Rattle.state.proofs.filterless.Requests.{narrow_widest, bounds}
use Rattle.sound.proofs.told.Tells.{no_table, begun_refused, begun_taken}
use Rattle.sound.proofs.set_up.setup.Goals as goal

pub setup_refusal-requires : goal.setup_refusal-requires
setup_refusal-requires c = (rw c.narrow_limits.ensures (omega arith), c.difference-differing.ensures)

pub returns-in_err-setup_refusal : goal.returns-in_err-setup_refusal
returns-in_err-setup_refusal c =
    let a = c.args in
    let entry = held a.h.now a.m.now in
    let test = rw c.narrow_limits.ensures at c.setup_refusal.ensures in
    let back = c.from_residual in
    record {
      same = search rules;
      begun = begun_refused a.s a.seeds.now entry _ _ (ap passed (setup_test_lem limits01 a.s a.seeds.now entry) ∙ sym test ∙ c.in_err-setup_refusal.was) back.ensures.1;
      table = no_table a.seeds.now back.result _ back.ensures.1;
    }

pub overflow_mul-s : goal.overflow_mul-s
overflow_mul-s c =
    let a = c.args in
    let entry = held a.h.now a.m.now in
    let test = rw c.narrow_limits.ensures at c.setup_refusal.ensures in
    let free = passed_ok _ _ (ap passed (setup_test_lem limits01 a.s a.seeds.now entry) ∙ sym test ∙ c.in_ok-setup_refusal.was) in
    let k = set_up_lem limits01 a.s a.seeds.now entry free in
    omega (arith, k.setting.ranges.banks_high)

pub clear-requires : goal.clear-requires
clear-requires c =
    let a = c.args in
    let entry = held a.h.now a.m.now in
    let test = rw c.narrow_limits.ensures at c.setup_refusal.ensures in
    let free = passed_ok _ _ (ap passed (setup_test_lem limits01 a.s a.seeds.now entry) ∙ sym test ∙ c.in_ok-setup_refusal.was) in
    (set_up_lem limits01 a.s a.seeds.now entry free).long.counters

pub fresh-requires : goal.fresh-requires
fresh-requires c =
    let a = c.args in
    let entry = held a.h.now a.m.now in
    let test = rw c.narrow_limits.ensures at c.setup_refusal.ensures in
    let free = passed_ok _ _ (ap passed (setup_test_lem limits01 a.s a.seeds.now entry) ∙ sym test ∙ c.in_ok-setup_refusal.was) in
    let k = set_up_lem limits01 a.s a.seeds.now entry free in
    (bounds narrow_widest k.setting, k.long.ticks, k.long.rows, k.long.threads)

pub returns : goal.returns
unfolding fresh
returns c =
    let a = c.args in
    let entry = held a.h.now a.m.now in
    let test = rw c.narrow_limits.ensures at c.setup_refusal.ensures in
    let free = passed_ok _ _ (ap passed (setup_test_lem limits01 a.s a.seeds.now entry) ∙ sym test ∙ c.in_ok-setup_refusal.was) in
    let e = c.fresh.ensures in
    let cleared = simp map-id at c.clear.ensures in
    record {
      same = search rules;
      begun = begun_taken a.s a.seeds.now entry _ _ free (λ i. state (e.0 i) (cleared i) (e.1 i) (e.2 i) (e.3 i));
      table = λ t. c.difference-differing.ensures.none (eqb-true _ 0 t);
    }
