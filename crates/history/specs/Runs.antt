-- A straight run of cells of the history ring, from the oldest up. The ring is two such runs and the pair across the wrap.
use Rattle.std.specs.Prelude.{ℕ, ◌+◌, Bool, List, nat_le, slice_index}
use Rattle.rules.specs.Cells.{every}

-- none of the n cells from place i on is followed by a smaller one
unfoldable pub never_falls : List ℕ → ℕ → ℕ → Bool
never_falls ticks i n = every n (λ k. nat_le (slice_index ticks (i + k)) (slice_index ticks (i + k + 1)))
