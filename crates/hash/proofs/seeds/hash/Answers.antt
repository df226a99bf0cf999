-- `seeds::hash` meets its contract: the four words of chosen seeds have all sixteen bits.
use Rattle.hash.proofs.seeds.Laws.{hash_is}
use Rattle.hash.proofs.seeds.hash.Goals as goal

pub returns : goal.returns
returns c =
    let row = c.from-bits.ensures in
    hash_is c.args.seeds.now c.args.f c.args.row c.chosen-a.result c.chosen-b.result c.chosen-c.result c.chosen-d.result c.fold.result
    c.requires.0 (rw row at c.chosen-a.ensures) (rw row at c.chosen-b.ensures) (rw row at c.chosen-c.ensures) (rw row at c.chosen-d.ensures) c.fold.ensures
