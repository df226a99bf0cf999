-- The rules' counters are filters: an opening counts in the two filters of its bank and in no other, and the estimate is the filter's own.
use mathlib.Core.Path.{◌≡◌, refl, sym, ap, ap₂, ◌∙◌}
use mathlib.Core.Logic.{◌≢◌}
use mathlib.Core.List.{List, [], ◌∷◌, map}
use mathlib.Core.Bool.{false, ◌||◌, cond}
use Prim.Native.Nat.{ℕ, zero, suc, ◌+◌, ◌*◌, ◌≤◌, ◌<◌, min}
use native.Mathlib.Omega.{arith}
use native.Mathlib.Nat.{zero-add, add-zero}
use native.Mathlib.Decide.{ℕ_discrete}
use lib.Dec.{eqb, eqb→eq}
use lib.ListN.{length, get_or}
use borrow.Author.Tests.{eq-eqb, ne_eqb}
use Rattle.head.specs.Head.{cells}
use Rattle.rules.specs.Cells.{member, map_from, map_cells, All}
use Rattle.rules.specs.State.{counter_cell}
use Rattle.rules.specs.Filter.{counter_at, estimate, raised, named, counted}
use Rattle.rules.proofs.Tests.{or_false, holds, same_test}
use Rattle.rules.proofs.Cells.{get_d_kept, map_same, get_or_cells}
use Rattle.rules.proofs.Filter.{counted_cell}
use Rattle.consequences.specs.order.Filled.{filter_of, least_at, counted_in}
use Rattle.consequences.specs.order.Claims.{CountedInFilters, EstimateOfFilter}

-- ---- the contents of a filter

-- the n cells from i on of a list whose cells are those of another, changed by their place from k on and their content
cells_mapped : (g : ℕ → ℕ → ℕ) (old new : List ℕ) (i k n : ℕ) → ((j : ℕ) → j < n → get_or new (i + j) 0 ≡ g (k + j) (get_or old (i + j) 0))
    → cells new i n ≡ map_from g k (cells old i n)
cells_mapped g old new i k zero h = refl
cells_mapped g old new i k (suc n) h =
    ap₂ (λ c cs. c ∷ cs) (rw (add-zero i, add-zero k) at (h 0 (omega arith)))
    (cells_mapped g old new (suc i) (suc k) n (λ j l. rw (next i j, next k j) (h (suc j) (omega arith))))
  where
    next : (m j : ℕ) → suc m + j ≡ m + suc j
    next m j = omega arith

-- the cell j places after a filter's first
cell_at : (bank f j : ℕ) → counter_cell bank f 0 + j ≡ counter_cell bank f j
cell_at bank f j = omega arith

-- counters that are others, changed by place and content within a filter
filter_mapped : (g : ℕ → ℕ → ℕ) (old new : List ℕ) (bank f : ℕ)
    → ((j : ℕ) → j < 1024 → get_or new (counter_cell bank f j) 0 ≡ g j (get_or old (counter_cell bank f j) 0))
    → filter_of new bank f ≡ map_cells g (filter_of old bank f)
unfolding filter_of
filter_mapped g old new bank f h =
    cells_mapped g old new (counter_cell bank f 0) 0 1024 (λ j l. rw (cell_at bank f j, zero-add j) (h j l))

-- counters that agree in a filter
pub filter_same : (old new : List ℕ) (bank f : ℕ) → ((j : ℕ) → j < 1024 → get_or new (counter_cell bank f j) 0 ≡ get_or old (counter_cell bank f j) 0)
    → filter_of new bank f ≡ filter_of old bank f
filter_same old new bank f h = filter_mapped (λ i c. c) old new bank f h ∙ map_same (λ i c. c) (λ i c. refl) (filter_of old bank f)

filter_cell : (counters : List ℕ) (bank f j : ℕ) → j < 1024 → get_or (filter_of counters bank f) j 0 ≡ get_or counters (counter_cell bank f j) 0
unfolding filter_of
filter_cell counters bank f j h = get_or_cells counters (counter_cell bank f 0) 1024 j h ∙ ap (λ i. get_or counters i 0) (cell_at bank f j)

pub estimate_of_filter : EstimateOfFilter
unfolding estimate least_at
estimate_of_filter counters bank f at w =
    ap₂ min (ap₂ min (here 0 w.first) (here 1 w.second)) (ap₂ min (here 2 w.third) (here 3 w.fourth))
  where
    here : (k : ℕ) → get_or at k 0 < 1024 → counter_at counters bank f at k ≡ get_or (filter_of counters bank f) (get_or at k 0) 0
    here k h = sym (filter_cell counters bank f (get_or at k 0) h)

-- ---- the counters that an opening names

member_same : (g : ℕ → ℕ) → ((x y : ℕ) → g x ≡ g y → x ≡ y) → (x : ℕ) (l : List ℕ) → member (g x) (map g l) ≡ member x l
member_same g one x [] = refl
member_same g one x (y ∷ l) = ap₂ (λ a b. a || b) here (member_same g one x l)
  where
    here : eqb (g x) (g y) ≡ eqb x y
    here = same_test (eqb (g x) (g y)) (eqb x y)
        (λ t. holds (eqb x y) (eq-eqb x y (one x y (eqb→eq (g x) (g y) t)))) (λ t. holds (eqb (g x) (g y)) (eq-eqb (g x) (g y) (ap g (eqb→eq x y t))))

member_none : (g : ℕ → ℕ) (i m : ℕ) → ((y : ℕ) → y < m → i ≢ g y) → (l : List ℕ) → All (λ y. y < m) l → member i (map g l) ≡ false
member_none g i m other [] a = refl
member_none g i m other (y ∷ l) a = ap₂ (λ p q. p || q) (ne_eqb i (g y) (other y a.0)) (member_none g i m other l a.1)

module _ (b : ℕ) (at : ℕ → List ℕ) (in0 : All (λ h. h < 1024) (at 0)) (in1 : All (λ h. h < 1024) (at 1)) where
  -- in a filter of its bank those at its places
  named_own : (f j : ℕ) → f < 2 → j < 1024 → named b at (counter_cell b f j) ≡ member j (at f)
  unfolding named
  named_own zero j f2 h =
      ap₂ (λ p q. p || q) (member_same (counter_cell b 0) (λ x y e. omega arith) j (at 0))
      (member_none (counter_cell b 1) (counter_cell b 0 j) 1024 (λ y k e. omega arith) (at 1) in1)
      ∙ or_false (member j (at 0))
  named_own (suc zero) j f2 h =
      ap₂ (λ p q. p || q) (member_none (counter_cell b 0) (counter_cell b 1 j) 1024 (λ y k e. omega arith) (at 0) in0)
      (member_same (counter_cell b 1) (λ x y e. omega arith) j (at 1))
  named_own (suc (suc f)) j f2 h = absurd (omega arith)

  -- in another bank none
  named_other : (bank f j : ℕ) → b ≢ bank → f < 2 → j < 1024 → named b at (counter_cell bank f j) ≡ false
  unfolding named
  named_other bank f j n f2 h =
      ap₂ (λ p q. p || q) (member_none (counter_cell b 0) (counter_cell bank f j) 1024 (λ y k e. n (omega arith)) (at 0) in0)
      (member_none (counter_cell b 1) (counter_cell bank f j) 1024 (λ y k e. n (omega arith)) (at 1) in1)

  module _ (n : ℕ) (counters : List ℕ) where
    own_filter : b * 2048 + 2048 ≤ length counters → (f : ℕ) → f < 2 → filter_of (counted n b at counters) b f ≡ counted_in n (at f) (filter_of counters b f)
    unfolding counted_in
    own_filter long f f2 =
        filter_mapped (λ i c. cond (member i (at f)) (raised n c) c) counters (counted n b at counters) b f
        (λ j h. let i = counter_cell b f j in counted_cell n b at counters i (omega arith) ∙ ap (λ q. cond q (raised n (get_or counters i 0)) (get_or counters i 0)) (named_own f j f2 h))

    other_filter : (bank f : ℕ) → b ≢ bank → f < 2 → filter_of (counted n b at counters) bank f ≡ filter_of counters bank f
    unfolding counted
    other_filter bank f d f2 =
        filter_same counters (counted n b at counters) bank f
        (λ j h. get_d_kept (λ i c. cond (named b at i) (raised n c) c) 0 (counter_cell bank f j) counters
        (λ c. rw (zero-add (counter_cell bank f j), named_other bank f j d f2 h)))

pub counted_in_filters : CountedInFilters
counted_in_filters n b at in0 in1 counters long bank f f2 = go (ℕ_discrete b bank)
  where
    go : Dec (b ≡ bank) → filter_of (counted n b at counters) bank f ≡ cond (eqb b bank) (counted_in n (at f) (filter_of counters bank f)) (filter_of counters bank f)
    go (yes e) = rw (eq-eqb b bank e, ← e) (own_filter b at in0 in1 n counters long f f2)
    go (no d) = rw (ne_eqb b bank d) (other_filter b at in0 in1 n counters bank f d f2)
