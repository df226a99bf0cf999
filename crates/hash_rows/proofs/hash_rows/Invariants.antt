-- `hash_rows` joins the hashes of the rows one by one.
use mathlib.Core.Path.{◌≡◌}
use Rattle.hash_rows.specs.Rows.{hashed_to}
use Rattle.hash_rows.proofs.hash_rows.Given as goal

abbrev pub invariant-loop-row : goal.invariant-loop-row
invariant-loop-row l = l.all ≡ hashed_to l.seeds l.rows l.row-index
