-- A filter's contents after a group of openings do not depend on the order of the group: two openings may change places.
use mathlib.Core.Path.{◌≡◌, refl, sym, ap, ◌∙◌}
use mathlib.Core.List.{List, [], ◌∷◌, ◌++◌}
use mathlib.Core.Bool.{Bool, true, false, ◌&&◌, cond}
use Prim.Native.Nat.{ℕ}
use lib.Dec.{eqb}
use Rattle.rules.specs.Cells.{member, map_cells, more, count}
use Rattle.rules.specs.Calls.{Activation, of_row}
use Rattle.rules.proofs.Cells.{map_map}
use Rattle.consequences.specs.order.Filled.{least_at, counted_in, filled, Permuted, same, swap, next, both}
use Rattle.consequences.specs.order.Claims.{OrderPlaysNoPart, EstimatesAlike, PermutedIsSame, PermutedAlike}
use Rattle.consequences.proofs.order.Steps.{times, steps, steps_same}

-- ---- openings one after another

pub filled_append : (n bank : ℕ) (at : ℕ → List ℕ) (os ps : List Activation) (filter : List ℕ)
    → filled n bank at (os ++ ps) filter ≡ filled n bank at ps (filled n bank at os filter)
filled_append n bank at [] ps filter = refl
filled_append n bank at (o ∷ os) ps filter = filled_append n bank at os ps _

-- one change of the cells at some places, and at others: either may be made first
module _ (g : ℕ → ℕ) where
  abbrev changed : List ℕ → ℕ → ℕ → ℕ
  changed at i c = cond (member i at) (g c) c

  change_swap : (at other cs : List ℕ) → map_cells (changed at) (map_cells (changed other) cs) ≡ map_cells (changed other) (map_cells (changed at) cs)
  change_swap at other cs =
      map_map (changed at) (changed other) (λ i c. changed at i (changed other i c)) cs (λ i c. refl)
      ∙ sym (map_map (changed other) (changed at) (λ i c. changed at i (changed other i c)) cs (λ i c. either (member i at) (member i other) c))
    where
      either : (p q : Bool) (c : ℕ) → cond q (g (cond p (g c) c)) (cond p (g c) c) ≡ cond p (g (cond q (g c) c)) (cond q (g c) c)
      either true true c = refl
      either true false c = refl
      either false true c = refl
      either false false c = refl

counted_swap : (n : ℕ) (at other filter : List ℕ) → counted_in n at (counted_in n other filter) ≡ counted_in n other (counted_in n at filter)
unfolding counted_in
counted_swap n at other filter = change_swap _ at other filter

-- ---- the rows that are opened in a bank, which are all that its filter counts by

rows_of : ℕ → List Activation → List ℕ
rows_of bank [] = []
rows_of bank (o ∷ os) = cond (eqb o.bank bank) (o.row ∷ rows_of bank os) (rows_of bank os)

rows_count : (bank row : ℕ) (os : List Activation) → times row (rows_of bank os) ≡ count (of_row bank row) os
unfolding rows_of
rows_count bank row [] = refl
rows_count bank row (o ∷ os) = go (eqb o.bank bank) (rows_count bank row os)
  where
    go : (q : Bool) → times row (rows_of bank os) ≡ count (of_row bank row) os
        → times row (cond q (o.row ∷ rows_of bank os) (rows_of bank os)) ≡ more (q && eqb o.row row) (count (of_row bank row) os)
    go true rest = ap (more (eqb o.row row)) rest
    go false rest = rest

module _ (n bank : ℕ) (at : ℕ → List ℕ) where
  abbrev row_step : ℕ → List ℕ → List ℕ
  row_step row filter = counted_in n (at row) filter

  row_swap : (a b : ℕ) (filter : List ℕ) → row_step a (row_step b filter) ≡ row_step b (row_step a filter)
  row_swap a b filter = counted_swap n (at a) (at b) filter

  abbrev row_steps : List ℕ → List ℕ → List ℕ
  row_steps = steps row_step row_swap

  is_steps : (os : List Activation) (filter : List ℕ) → filled n bank at os filter ≡ row_steps (rows_of bank os) filter
  unfolding rows_of
  is_steps [] filter = refl
  is_steps (o ∷ os) filter = go (eqb o.bank bank) (is_steps os)
    where
      go : (q : Bool) → ((x : List ℕ) → filled n bank at os x ≡ row_steps (rows_of bank os) x)
          → filled n bank at os (cond q (row_step o.row filter) filter) ≡ row_steps (cond q (o.row ∷ rows_of bank os) (rows_of bank os)) filter
      go true rest = rest (row_step o.row filter)
      go false rest = rest filter

pub order_plays_no_part : OrderPlaysNoPart
order_plays_no_part n bank at os ps group filter =
    is_steps n bank at os filter
    ∙ steps_same (row_step n bank at) (row_swap n bank at) (rows_of bank os) (rows_of bank ps)
    (λ row. rows_count bank row os ∙ group row ∙ sym (rows_count bank row ps)) filter
    ∙ sym (is_steps n bank at ps filter)

pub estimates_alike : EstimatesAlike
estimates_alike n bank at os ps group filter row = ap (λ cells. least_at cells (at row)) (order_plays_no_part n bank at os ps group filter)

-- ---- permutations

more_swap : (a b : Bool) (n : ℕ) → more a (more b n) ≡ more b (more a n)
more_swap true true n = refl
more_swap true false n = refl
more_swap false true n = refl
more_swap false false n = refl

permuted_count : (test : Activation → Bool) {os ps : List Activation} → Permuted os ps → count test os ≡ count test ps
permuted_count test (same os) = refl
permuted_count test (swap o p os) = more_swap (test o) (test p) (count test os)
permuted_count test (next o rest) = ap (more (test o)) (permuted_count test rest)
permuted_count test (both first second) = permuted_count test first ∙ permuted_count test second

pub permuted_is_same : PermutedIsSame
permuted_is_same os ps p bank row = permuted_count (of_row bank row) p

pub permuted_alike : PermutedAlike
permuted_alike n bank at os ps p = order_plays_no_part n bank at os ps (permuted_is_same os ps p bank)
