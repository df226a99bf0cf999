-- The cells that the parts of a clearing call clear; the whole calls are defined by the rules.
use Rattle.std.specs.Prelude.{Bool, ◌&&◌, ℕ, ◌+◌, ◌*◌, ◌/◌, ◌%◌, leb, ltb, eqb}

-- cell i is one of the n cells from start on
unfoldable pub in_run : ℕ → ℕ → ℕ → Bool
in_run start n i = leb start i && ltb i (start + n)

-- cell i is a counter of filter f in one of the first banks
unfoldable pub in_filter : ℕ → ℕ → ℕ → Bool
in_filter banks f i = ltb i (banks * 2048) && eqb (i / 1024 % 2) f
