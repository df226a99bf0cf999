-- What the search gives, as an option, and the tick from which the row is free.
use Rattle.std.specs.Prelude.{ℕ, ◌+◌, ◌-◌, List, Option, None, Some, cond, nat_eq, slice_index}

-- the rules' search names h where no place of the ring matches
unfoldable pub place_found : ℕ → ℕ → Option ℕ
place_found h place = cond (nat_eq place h) None (Some place)

-- the first tick at which the activation at the place found is td ticks old, 0 where none was found
abbrev pub end_of : List ℕ → ℕ → Option ℕ → ℕ
end_of ticks td None = 0
end_of ticks td (Some place) = slice_index ticks place - 1 + td
