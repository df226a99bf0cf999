-- The cells of one kind among the thread counters.
use Rattle.std.specs.Prelude.{Bool, ◌&&◌, ℕ, ◌*◌, ◌%◌, ltb, eqb}

-- cell j is the cell of kind k of one of the first n groups of three; kinds as in the rules' threadCell
unfoldable pub kind_below : ℕ → ℕ → ℕ → Bool
kind_below k n j = ltb j (3 * n) && eqb (j % 3) k
