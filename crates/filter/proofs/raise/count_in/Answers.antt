-- `count_in` meets its contract: four stores of what the cells held, raised, and the least of them.
use Rattle.std.proofs.Common.{◌≡◌, ◌+◌, ◌*◌, ◌≤◌, ℕ, map, length, get_or, ap, ap₂, min, ◌∙◌, rules}
use Rattle.std.proofs.lemmas.List.{length-map}
use Rattle.rules.specs.State.{counter_cell}
use Rattle.rules.specs.Filter.{raised}
use Rattle.filter.proofs.Numbers.{number_read}
use Rattle.filter.proofs.raise.Raising.{row_raised, row_estimate}
use Rattle.filter.proofs.raise.count_in.Goals as goal

pub returns : goal.returns
returns g c =
    let four : length c.args.«at» ≡ 4 = search rules in
    let a = c.args in
    let v = g.C.Counter.value in
    let long : a.bank * 2048 + 2048 ≤ length (map v a.counters.now) = simp length-map c.requires.2 in
    let cell : ℕ → ℕ = λ k. counter_cell a.bank a.f (get_or a.«at» k 0) in
    let more = raised (v a.n) in
    let e0 = c.raise-v0.ensures ∙ ap more (number_read v a.counters.now (cell 0) c.index-counters-a0.result (search rules) c.index-counters-a0.is) in
    let e1 = c.raise-v1.ensures ∙ ap more (number_read v a.counters.now (cell 1) c.index-counters-a1.result (search rules) c.index-counters-a1.is) in
    let e2 = c.raise-v2.ensures ∙ ap more (number_read v a.counters.now (cell 2) c.index-counters-a2.result (search rules) c.index-counters-a2.is) in
    let e3 = c.raise-v3.ensures ∙ ap more (number_read v a.counters.now (cell 3) c.index-counters-a3.result (search rules) c.index-counters-a3.is) in
    let stores =
    row_raised v (v a.n) a.bank a.f a.«at» a.counters.now c.raise-v0.result c.raise-v1.result c.raise-v2.result c.raise-v3.result
    four c.requires.3 c.requires.1 long e0 e1 e2 e3 in
    let reports =
    row_estimate (v a.n) a.bank a.f a.«at» (map v a.counters.now) (v c.raise-v0.result) (v c.raise-v1.result) (v c.raise-v2.result) (v c.raise-v3.result)
    (v c.least-3.result) four c.requires.3 c.requires.1 long e0 e1 e2 e3 (c.least-3.ensures ∙ ap₂ min c.least.ensures c.least-2.ensures) in
    (stores, rw stores reports)
