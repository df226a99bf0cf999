-- `table::table_places` meets its contract: the lanes of the two words together are the places.
use Rattle.hash.proofs.table.Table.{table_places}
use Rattle.hash.proofs.table.table_places.Goals as goal

pub returns : goal.returns
returns c =
    table_places c.args.row c.high.result c.low.result (rw c.from-bits.ensures at c.high.ensures) (rw c.from-bits.ensures at c.low.ensures)
