-- The two counting Bloom filters of a bank: estimate, blacklist, and what an activation adds.
use Rattle.std.specs.Prelude.{List, map, Bool, ◌||◌, cond, ℕ, ◌+◌, ◌<◌, min, leb, ltb, eqb, get_or}
use Rattle.rules.specs.Cells.{member, map_cells}
use Rattle.rules.specs.State.{counter_cell}

-- each of a row's four places is within a filter
pub record Within (at : List ℕ) : Type 0 where
  pub first : get_or at 0 0 < 1024
  pub second : get_or at 1 0 < 1024
  pub third : get_or at 2 0 < 1024
  pub fourth : get_or at 3 0 < 1024

-- the places of a row in filter 0 and in filter 1, by filter
abbrev pub two : List ℕ → List ℕ → ℕ → List ℕ
two a b f = cond (eqb f 0) a b

-- the counter at the k-th of a row's places in filter f
abbrev pub counter_at : List ℕ → ℕ → ℕ → List ℕ → ℕ → ℕ
counter_at counters bank f at k = get_or counters (counter_cell bank f (get_or at k 0)) 0

-- "The estimate is the least of the four in the tested filter."
unfoldable pub estimate : List ℕ → ℕ → ℕ → List ℕ → ℕ
estimate counters bank f at =
    min (min (counter_at counters bank f at 0) (counter_at counters bank f at 1)) (min (counter_at counters bank f at 2) (counter_at counters bank f at 3))

-- "A row with estimate N or more is blacklisted."
abbrev pub blacklisted : ℕ → ℕ → Bool
blacklisted n est = leb n est

-- a counter with 1 more "if it is below" the limit
unfoldable pub raised : ℕ → ℕ → ℕ
raised limit c = cond (ltb c limit) (c + 1) c

-- cell i is one of the row's counters in filter 0 or filter 1 of the bank; at f gives its places in filter f
unfoldable pub named : ℕ → (ℕ → List ℕ) → ℕ → Bool
named bank at i = member i (map (counter_cell bank 0) (at 0)) || member i (map (counter_cell bank 1) (at 1))

-- "An opening adds 1 to each distinct counter once, in both filters, if it is below N."
unfoldable pub counted : ℕ → ℕ → (ℕ → List ℕ) → List ℕ → List ℕ
counted n bank at counters = map_cells (λ i c. cond (named bank at i) (raised n c) c) counters
