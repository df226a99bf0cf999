-- `filter::one_estimate` meets its contract: the part's estimate is the bank's.
use Rattle.std.proofs.Common.{◌*◌, refl, ◌∙◌, rules}
use Rattle.filter.proofs.Parts.{part_estimate}
use Rattle.filter.proofs.one_estimate.Goals as goal

pub returns : goal.returns
returns g c =
    let a = c.args in
    c.estimate.ensures ∙ part_estimate g.C.Counter.value a.counters.now (a.bank * 2048) a.bank a.f a.«at» refl (search rules) (search rules)
