-- `lent_refusal` gives the refusals of set-up, then 7.
use Rattle.std.proofs.Common.{length, refl, sym, ◌∙◌}
use Rattle.rules.specs.Setting.{setting_of}
use Rattle.refusal.specs.Tests.{setup_test, lent_test}
use Rattle.refused.proofs.Laws.{passed_ok, passed_up, passed_second}
use Rattle.refusal.proofs.Refusals.{tested_setup}
use Rattle.refusal.proofs.lent_refusal.Goals as goal
use Rattle.refusal.proofs.lent_refusal.Goals.{else-keeps-via-then-keeps+else-not-memory_ok, else-keeps-via-else-keeps}

pub returns-in_err-setup_refusal : goal.returns-in_err-setup_refusal
unfolding lent_test
returns-in_err-setup_refusal c =
    let e = c.load-s.ensures in
    passed_up (setup_test c.args.m (setting_of c.args.lent.setting.now) c.args.lent.seeds.now c.args.lent.counters (length c.args.lent.ticks.now) c.args.lent.rows c.args.threads) _ _ _ _
    (rw e at c.setup_refusal.ensures) c.in_err-setup_refusal.was c.from_residual.ensures.1

pub history_length-requires : goal.history_length-requires
history_length-requires c =
    let e = c.load-s.ensures in
    let ok = tested_setup c.args.m (setting_of c.args.lent.setting.now) c.args.lent.seeds.now c.args.lent.counters (length c.args.lent.ticks.now) c.args.lent.rows c.args.threads
    (passed_ok _ _ (sym (rw e at c.setup_refusal.ensures) ∙ c.in_ok-setup_refusal.was)) in
    let k = ok.setting.ranges in
    rw e (k.tfaw_low, k.tfaw_high, k.td_high)

pub memory_ok-requires : goal.memory_ok-requires
memory_ok-requires c =
    let e = c.load-s.ensures in
    let ok = tested_setup c.args.m (setting_of c.args.lent.setting.now) c.args.lent.seeds.now c.args.lent.counters (length c.args.lent.ticks.now) c.args.lent.rows c.args.threads
    (passed_ok _ _ (sym (rw e at c.setup_refusal.ensures) ∙ c.in_ok-setup_refusal.was)) in
    let z = rw e at c.history_length.ensures in
    rw (e, z) (ok.setting.ranges.banks_high, refl, ok.ticks_long)

pub returns-then-not-memory_ok : goal.returns-then-not-memory_ok
unfolding lent_test
returns-then-not-memory_ok c =
    let e = c.load-s.ensures in
    let bad = rw e at (sym c.memory_ok.ensures) ∙ c.if-not-memory_ok.true in
    sym (passed_second (setup_test c.args.m (setting_of c.args.lent.setting.now) c.args.lent.seeds.now c.args.lent.counters (length c.args.lent.ticks.now) c.args.lent.rows c.args.threads) _ _
    (sym (rw e at c.setup_refusal.ensures) ∙ c.in_ok-setup_refusal.was) ∙ rw (c.if-keeps.true, bad))

pub returns : goal.returns
unfolding lent_test
returns c =
    let e = c.load-s.ensures in
    sym (passed_second (setup_test c.args.m (setting_of c.args.lent.setting.now) c.args.lent.seeds.now c.args.lent.counters (length c.args.lent.ticks.now) c.args.lent.rows c.args.threads) _ _
    (sym (rw e at c.setup_refusal.ensures) ∙ c.in_ok-setup_refusal.was)
    ∙ elim c.else-keeps.branch [
      | else-keeps-via-then-keeps+else-not-memory_ok w ↦ rw (w.if-keeps.true, rw e at (sym w.memory_ok.ensures) ∙ w.if-not-memory_ok.false)
      | else-keeps-via-else-keeps w ↦ rw w.if-keeps.false
    ])
