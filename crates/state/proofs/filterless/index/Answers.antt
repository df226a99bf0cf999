-- `index` reads the thread's counter in test.
use Prim.Native.Nat.{◌%◌}
use mathlib.Core.Path.{refl, sym, ap, ◌∙◌}
use lib.ListN.{get_or}
use Rattle.rules.specs.Quota.{quota_even}
use Rattle.threads.proofs.counters.Index.{cell_at}
use Rattle.state.proofs.filterless.index.Goals as goal

pub returns : goal.returns
returns c =
    let a = c.args in
    let n = c.from.ensures in
    (n ∙ ap (λ x. get_or a.threads.now x 0) (cell_at a.s a.bank a.thread c.cell-cell.result (a.e % 2) c.cell-cell.ensures.0), refl, c.quota-quota.ensures.0 ∙ ap (quota_even a.s) (sym n))
