-- A filter by itself: its contents, its estimate of a row, and what a list of openings makes of them.
use Rattle.std.specs.Prelude.{◌≡◌, List, [], ◌∷◌, cond, ℕ, min, eqb, get_or}
use Rattle.head.specs.Head.{cells}
use Rattle.rules.specs.Cells.{member, map_cells, count}
use Rattle.rules.specs.State.{counter_cell}
use Rattle.rules.specs.Filter.{raised}
use Rattle.rules.specs.Calls.{Activation, of_row}

-- "a filter's contents": the 1,024 counters of filter f of a bank
unfoldable pub filter_of : List ℕ → ℕ → ℕ → List ℕ
filter_of counters bank f = cells counters (counter_cell bank f 0) 1024

-- the estimate of a row with these places: "the least of the four"
unfoldable pub least_at : List ℕ → List ℕ → ℕ
least_at filter at = min (min (get_or filter (get_or at 0 0) 0) (get_or filter (get_or at 1 0) 0)) (min (get_or filter (get_or at 2 0) 0) (get_or filter (get_or at 3 0) 0))

-- "An opening adds 1 to each distinct counter once, .., if it is below N", of a row with these places
unfoldable pub counted_in : ℕ → List ℕ → List ℕ → List ℕ
counted_in n at filter = map_cells (λ i c. cond (member i at) (raised n c) c) filter

-- The filter of a bank after a list of openings, one after another: those of other banks leave it as it is. at row are the row's places in it.
abbrev pub filled : ℕ → ℕ → (ℕ → List ℕ) → List Activation → List ℕ → List ℕ
filled n bank at [] filter = filter
filled n bank at (o ∷ os) filter = filled n bank at os (cond (eqb o.bank bank) (counted_in n (at o.row) filter) filter)

-- "the group": two lists of openings are the same group for a bank if each row of it is opened as often in both. Ticks and threads play no part.
abbrev pub SameGroup : ℕ → List Activation → List Activation → Type 0
SameGroup bank os ps = (row : ℕ) → count (of_row bank row) os ≡ count (of_row bank row) ps

-- one list is the other in another order
pub data Permuted : List Activation → List Activation → Type 0 where
  same : (os : List Activation) → Permuted os os
  swap : (o p : Activation) (os : List Activation) → Permuted (o ∷ p ∷ os) (p ∷ o ∷ os)
  next : (o : Activation) {os ps : List Activation} → Permuted os ps → Permuted (o ∷ os) (o ∷ ps)
  both : {os ps qs : List Activation} → Permuted os ps → Permuted ps qs → Permuted os qs
