-- `seeds::seed_places` meets its contract: the four hashes are the definition's places.
use Rattle.hash_rules.proofs.Places.{four_places}
use Rattle.hash.proofs.seeds.seed_places.Goals as goal

pub returns : goal.returns
returns c =
    let a = c.args in
    four_places a.seeds.now a.row c.hash.result c.hash-2.result c.hash-3.result c.hash-4.result c.hash.ensures c.hash-2.ensures c.hash-3.ensures c.hash-4.ensures
