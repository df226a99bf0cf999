-- `hash::places` meets its contract: by the table or by the seeds, the places are the definition's, and each is below 1,024.
use mathlib.Core.Path.{sym, ap, ◌∙◌}
use Rattle.rules.specs.Hash.{places}
use Rattle.hash.proofs.Laws.{within}
use Rattle.hash.proofs.places.Goals as goal

pub returns-then-table : goal.returns-then-table
returns-then-table c =
    let a = c.args in
    let e = c.table_places.ensures ∙ ap (λ seeds. places seeds a.row) (sym (c.requires.1 c.if-table.true)) in
    (e, within a.seeds.now _ a.row c.requires.0 e)

pub returns : goal.returns
returns c =
    let a = c.args in
    let e = c.seed_places.ensures in
    (e, within a.seeds.now _ a.row c.requires.0 e)
