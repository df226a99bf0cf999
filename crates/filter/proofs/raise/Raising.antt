-- What an activation adds to one filter: the four stores, and the estimate after them.
-- All of it is about natural numbers, so it serves counters of every width.
use mathlib.Core.Path.{◌≡◌, refl, sym, ap, ap₂, ◌∙◌, subst}
use mathlib.Core.List.{List, [], ◌∷◌, map}
use mathlib.Core.Bool.{false, cond}
use Prim.Native.Nat.{ℕ, zero, suc, ◌+◌, ◌*◌, ◌≤◌, ◌<◌, min}
use native.Mathlib.Omega.{arith}
use lib.Dec.{T}
use lib.ListN.{length, get_or, set}
use borrow.Author.Tests.{eq-eqb, ne_eqb}
use Rattle.rules.specs.Cells.{member, All}
use Rattle.rules.specs.State.{counter_cell}
use Rattle.rules.specs.Filter.{Within, counter_at, estimate, raised}
use Rattle.rules.proofs.Tests.{cond_yes}
use Rattle.rules.proofs.Cells.{get_or_map_cells, map_same, store_map}
use Rattle.rules.proofs.Filter.{member_map, member_cell}
use Rattle.filter.specs.raise.Changes.{raised_at}
use Rattle.filter.proofs.Numbers.{numbers_stored}

-- ---- the counters of a list of cells

raised_none : (n : ℕ) (cs : List ℕ) → raised_at n [] cs ≡ cs
unfolding raised_at
raised_none n cs = map_same (λ i c. cond (member i []) (raised n c) c) (λ i c. refl) cs

-- one store more, of what the cell held before all stores, with 1 more
raised_store : (n : ℕ) (at cs : List ℕ) (a v : ℕ) → a < length cs → v ≡ raised n (get_or cs a 0) → set (raised_at n at cs) a v ≡ raised_at n (a ∷ at) cs
unfolding raised_at
raised_store n at cs a v h e =
    store_map (λ i c. cond (member i at) (raised n c) c) (λ i c. cond (member i (a ∷ at)) (raised n c) c) cs a v h
    (rw (eq-eqb a a refl) e) (λ i c p. rw (ne_eqb i a p))

-- four stores, from the last cell to the first
raised_four : (n : ℕ) (cs : List ℕ) (a0 a1 a2 a3 v0 v1 v2 v3 : ℕ)
    → a0 < length cs → a1 < length cs → a2 < length cs → a3 < length cs
    → v0 ≡ raised n (get_or cs a0 0) → v1 ≡ raised n (get_or cs a1 0) → v2 ≡ raised n (get_or cs a2 0) → v3 ≡ raised n (get_or cs a3 0)
    → set (set (set (set cs a3 v3) a2 v2) a1 v1) a0 v0 ≡ raised_at n (a0 ∷ a1 ∷ a2 ∷ a3 ∷ []) cs
raised_four n cs a0 a1 a2 a3 v0 v1 v2 v3 h0 h1 h2 h3 e0 e1 e2 e3 =
    let s3 : set cs a3 v3 ≡ raised_at n (a3 ∷ []) cs = ap (λ l. set l a3 v3) (sym (raised_none n cs)) ∙ raised_store n [] cs a3 v3 h3 e3 in
    let s2 : set (set cs a3 v3) a2 v2 ≡ raised_at n (a2 ∷ a3 ∷ []) cs = ap (λ l. set l a2 v2) s3 ∙ raised_store n (a3 ∷ []) cs a2 v2 h2 e2 in
    let s1 : set (set (set cs a3 v3) a2 v2) a1 v1 ≡ raised_at n (a1 ∷ a2 ∷ a3 ∷ []) cs = ap (λ l. set l a1 v1) s2 ∙ raised_store n (a2 ∷ a3 ∷ []) cs a1 v1 h1 e1 in
    ap (λ l. set l a0 v0) s1 ∙ raised_store n (a1 ∷ a2 ∷ a3 ∷ []) cs a0 v0 h0 e0

-- ---- a row's four cells

list_of_four : (l : List ℕ) → length l ≡ 4 → get_or l 0 0 ∷ get_or l 1 0 ∷ get_or l 2 0 ∷ get_or l 3 0 ∷ [] ≡ l
list_of_four [] e = absurd (omega arith)
list_of_four (a ∷ []) e = absurd (omega arith)
list_of_four (a ∷ b ∷ []) e = absurd (omega arith)
list_of_four (a ∷ b ∷ c ∷ []) e = absurd (omega arith)
list_of_four (a ∷ b ∷ c ∷ d ∷ []) e = refl
list_of_four (a ∷ b ∷ c ∷ d ∷ x ∷ xs) e = absurd (omega arith)

pub within_place : (at : List ℕ) (k : ℕ) → Within at → k < 4 → get_or at k 0 < 1024
within_place at zero w h = w.first
within_place at (suc zero) w h = w.second
within_place at (suc (suc zero)) w h = w.third
within_place at (suc (suc (suc zero))) w h = w.fourth
within_place at (suc (suc (suc (suc k)))) w h = absurd (omega arith)

pub within_all : (at : List ℕ) → length at ≡ 4 → Within at → All (λ p. p < 1024) at
within_all at e w = subst (λ l. All (λ p. p < 1024) l) (list_of_four at e) (w.first, (w.second, (w.third, (w.fourth, tt))))

-- the stores of the code, against the row's cells in filter f of a bank; value is the number that a counter holds
pub row_raised : {A : Type 0} (value : A → ℕ) (n bank f : ℕ) (at : List ℕ) (cs : List A) (v0 v1 v2 v3 : A) → length at ≡ 4 → Within at → f < 2
    → bank * 2048 + 2048 ≤ length (map value cs)
    → value v0 ≡ raised n (counter_at (map value cs) bank f at 0) → value v1 ≡ raised n (counter_at (map value cs) bank f at 1)
    → value v2 ≡ raised n (counter_at (map value cs) bank f at 2) → value v3 ≡ raised n (counter_at (map value cs) bank f at 3)
    → map value (set (set (set (set cs (counter_cell bank f (get_or at 3 0)) v3) (counter_cell bank f (get_or at 2 0)) v2) (counter_cell bank f (get_or at 1 0)) v1) (counter_cell bank f (get_or at 0 0)) v0)
    ≡ raised_at n (map (counter_cell bank f) at) (map value cs)
row_raised value n bank f at cs v0 v1 v2 v3 four w hf long e0 e1 e2 e3 =
    let k : ℕ → ℕ = λ j. counter_cell bank f (get_or at j 0) in
    numbers_stored value cs (k 0) (k 1) (k 2) (k 3) v0 v1 v2 v3
    ∙ raised_four n (map value cs) (k 0) (k 1) (k 2) (k 3) (value v0) (value v1) (value v2) (value v3)
    (omega (arith, w.first)) (omega (arith, w.second)) (omega (arith, w.third)) (omega (arith, w.fourth)) e0 e1 e2 e3
    ∙ ap (λ l. raised_at n (map (counter_cell bank f) l) (map value cs)) (list_of_four at four)

-- ---- the estimate after the stores

-- a cell of the list holds what it held, raised, and any other what it held
raised_cell : (n : ℕ) (at cs : List ℕ) (j : ℕ) → j < length cs → T (member j at) → get_or (raised_at n at cs) j 0 ≡ raised n (get_or cs j 0)
unfolding raised_at
raised_cell n at cs j h m =
    get_or_map_cells (λ i c. cond (member i at) (raised n c) c) j cs h ∙ cond_yes (member j at) (raised n (get_or cs j 0)) (get_or cs j 0) m

pub other_cell : (n : ℕ) (at cs : List ℕ) (j : ℕ) → j < length cs → member j at ≡ false → get_or (raised_at n at cs) j 0 ≡ get_or cs j 0
unfolding raised_at
other_cell n at cs j h m = get_or_map_cells (λ i c. cond (member i at) (raised n c) c) j cs h ∙ ap (λ q. cond q (raised n (get_or cs j 0)) (get_or cs j 0)) m

-- the k-th of a row's cells in filter f is one of them, and among the counters
row_cell : (bank f k : ℕ) (at : List ℕ) → length at ≡ 4 → k < 4 → T (member (counter_cell bank f (get_or at k 0)) (map (counter_cell bank f) at))
row_cell bank f k at four h = member_map (counter_cell bank f) (get_or at k 0) at (member_cell at k (omega arith))

pub cell_lt : (bank f k : ℕ) (at cs : List ℕ) → Within at → k < 4 → f < 2 → bank * 2048 + 2048 ≤ length cs → counter_cell bank f (get_or at k 0) < length cs
cell_lt bank f k at cs w h hf long = let p : get_or at k 0 < 1024 = within_place at k w h in omega arith

-- the least of the raised counters is the estimate that the stores leave
pub row_estimate : (n bank f : ℕ) (at cs : List ℕ) (v0 v1 v2 v3 r : ℕ) → length at ≡ 4 → Within at → f < 2 → bank * 2048 + 2048 ≤ length cs
    → v0 ≡ raised n (counter_at cs bank f at 0) → v1 ≡ raised n (counter_at cs bank f at 1)
    → v2 ≡ raised n (counter_at cs bank f at 2) → v3 ≡ raised n (counter_at cs bank f at 3)
    → r ≡ min (min v0 v1) (min v2 v3) → r ≡ estimate (raised_at n (map (counter_cell bank f) at) cs) bank f at
unfolding estimate
row_estimate n bank f at cs v0 v1 v2 v3 r four w hf long e0 e1 e2 e3 er =
    er ∙ ap₂ min (ap₂ min (e0 ∙ cell 0 (omega arith)) (e1 ∙ cell 1 (omega arith))) (ap₂ min (e2 ∙ cell 2 (omega arith)) (e3 ∙ cell 3 (omega arith)))
  where
    cell : (k : ℕ) → k < 4 → raised n (counter_at cs bank f at k) ≡ counter_at (raised_at n (map (counter_cell bank f) at) cs) bank f at k
    cell k h =
        sym (raised_cell n (map (counter_cell bank f) at) cs (counter_cell bank f (get_or at k 0)) (cell_lt bank f k at cs w h hf long) (row_cell bank f k at four h))
