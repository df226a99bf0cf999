-- `change_over` is refused as the rules say, or copies the used counters.
use Rattle.std.proofs.Common.{arith, rules}
use Rattle.rules.specs.Setting.{setting_of}
use Rattle.rules.specs.Policy.{limits01}
use Rattle.rules.proofs.Accept.{accepted}
use Rattle.change_over.proofs.Changes.{all_passed, left_refused, left_taken}
use Rattle.change_over.proofs.change_over.Goals as goal

pub returns-in-Err : goal.returns-in-Err
returns-in-Err c =
    let a = c.args in
    rw c.from.ensures
    (left_refused (setting_of a.setting.now) a.seeds.now a.head.now a.old.now a.counters.now a.ticks.now a.rows.now a.threads.now a.m _ _
    c.requires (search rules) c.lent_refusal.ensures _ c.in-Err.is)

pub overflow_mul-s : goal.overflow_mul-s
overflow_mul-s c =
    let a = c.args in
    let k =
    all_passed (setting_of a.setting.now) a.seeds.now a.head.now a.old.now a.counters.now a.ticks.now a.rows.now a.threads.now a.m _ _
    c.requires (search rules) c.lent_refusal.ensures _ c.in_default.is in
    rw c.load-s.ensures (omega (arith, (accepted limits01 _ _ k.setting).ranges.banks_high))

pub take_over-requires : goal.take_over-requires
take_over-requires c =
    let a = c.args in
    let k =
    all_passed (setting_of a.setting.now) a.seeds.now a.head.now a.old.now a.counters.now a.ticks.now a.rows.now a.threads.now a.m _ _
    c.requires (search rules) c.lent_refusal.ensures _ c.in_default.is in
    rw c.load-s.ensures (k.long.counters, k.long_new)

pub returns : goal.returns
returns c =
    let a = c.args in
    rw (c.take_over.ensures, c.load-s.ensures)
    (left_taken (setting_of a.setting.now) a.seeds.now a.head.now a.old.now a.counters.now a.ticks.now a.rows.now a.threads.now a.m _ _
    c.requires (search rules) c.lent_refusal.ensures _ c.in_default.is)
