-- `filter::estimate` meets its contract: the least of the two leasts is the rules' estimate.
use Rattle.std.proofs.Common.{◌+◌, ◌*◌, ℕ, map, get_or, ap₂, min, ◌∙◌, rules}
use Rattle.filter.proofs.Numbers.{number_read}
use Rattle.filter.proofs.Parts.{estimate_part}
use Rattle.filter.proofs.estimate.Goals as goal

pub returns : goal.returns
returns g c =
    let a = c.args in
    let v = g.C.Counter.value in
    let place : ℕ → ℕ = λ k. a.f * 1024 + get_or a.«at» k 0 in
    let first = number_read v a.part.now (place 0) c.index-part-base.result (search rules) c.index-part-base.is in
    let second = number_read v a.part.now (place 1) c.index-part-base-2.result (search rules) c.index-part-base-2.is in
    let third = number_read v a.part.now (place 2) c.index-part-base-3.result (search rules) c.index-part-base-3.is in
    let fourth = number_read v a.part.now (place 3) c.index-part-base-4.result (search rules) c.index-part-base-4.is in
    estimate_part (map v a.part.now) a.f _ (v c.least-left.result) (v c.least-right.result) (v c.least.result)
    (c.least-left.ensures ∙ ap₂ min first second) (c.least-right.ensures ∙ ap₂ min third fourth) c.least.ensures
