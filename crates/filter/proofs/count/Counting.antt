-- What an activation adds: the two filters of a bank, against the rules' `counted`.
-- All of it is about natural numbers, so it serves counters of every width.
use mathlib.Core.Path.{◌≡◌, refl, ap, ap₂, ◌∙◌}
use mathlib.Core.Logic.{◌⊎◌, inl, inr}
use mathlib.Core.List.{List, [], ◌∷◌, map}
use mathlib.Core.Bool.{Bool, true, false, ◌||◌, cond}
use Prim.Native.Nat.{ℕ, ◌+◌, ◌*◌, ◌≤◌, ◌<◌, min}
use native.Mathlib.Omega.{arith}
use lib.Dec.{T, eqb, eqb→eq}
use lib.ListN.{length, get_or}
use Rattle.rules.specs.Cells.{member, All}
use Rattle.rules.specs.State.{counter_cell}
use Rattle.rules.specs.Filter.{Within, two, counter_at, estimate, raised, named, counted}
use Rattle.rules.proofs.Tests.{or_e, holds}
use Rattle.rules.proofs.Cells.{map_map}
use Rattle.filter.specs.raise.Changes.{raised_at}
use Rattle.filter.proofs.raise.Raising.{within_place, within_all, other_cell, cell_lt}

-- a row's cell in filter f is one of the 1,024 of that filter
cell_in : (bank f i : ℕ) (at : List ℕ) → All (λ p. p < 1024) at → T (member i (map (counter_cell bank f) at))
    → (counter_cell bank f 0 ≤ i) × (i < counter_cell bank f 1024)
cell_in bank f i [] a m = absurd m
cell_in bank f i (p ∷ at) a m = go (or_e (eqb i (counter_cell bank f p)) (member i (map (counter_cell bank f) at)) m) (cell_in bank f i at a.1)
  where
    go : T (eqb i (counter_cell bank f p)) ⊎ T (member i (map (counter_cell bank f) at))
        → (T (member i (map (counter_cell bank f) at)) → (counter_cell bank f 0 ≤ i) × (i < counter_cell bank f 1024))
        → (counter_cell bank f 0 ≤ i) × (i < counter_cell bank f 1024)
    go (inl e) ih = let k = eqb→eq i (counter_cell bank f p) e in let b = a.0 in (omega arith, omega arith)
    go (inr t) ih = ih t

-- a cell that is in one list at most is raised once at most
raise_once : (a b : Bool) (n c : ℕ) → (T a → T b → ⊥)
    → cond b (raised n (cond a (raised n c) c)) (cond a (raised n c) c) ≡ cond (a || b) (raised n c) c
raise_once true true n c h = absurd (h tt tt)
raise_once true false n c h = refl
raise_once false true n c h = refl
raise_once false false n c h = refl

-- an activation is counted in filter 0 and then in filter 1; at f gives the row's places in filter f
pub counted_both : (n bank : ℕ) (at : ℕ → List ℕ) (cs : List ℕ) → All (λ p. p < 1024) (at 0) → All (λ p. p < 1024) (at 1)
    → raised_at n (map (counter_cell bank 1) (at 1)) (raised_at n (map (counter_cell bank 0) (at 0)) cs) ≡ counted n bank at cs
unfolding raised_at counted named
counted_both n bank at cs h0 h1 =
    let p : ℕ → Bool = λ i. member i (map (counter_cell bank 0) (at 0)) in
    let q : ℕ → Bool = λ i. member i (map (counter_cell bank 1) (at 1)) in
    map_map (λ i c. cond (q i) (raised n c) c) (λ i c. cond (p i) (raised n c) c) (λ i c. cond (p i || q i) (raised n c) c) cs
    (λ i c. raise_once (p i) (q i) n c (λ x y. let a = cell_in bank 0 i (at 0) h0 x in let b = cell_in bank 1 i (at 1) h1 y in omega arith))

-- the two calls of the code, for a row with these places in filter 0 and filter 1
pub counted_row : (n bank : ℕ) (at other cs m z : List ℕ) → length at ≡ 4 → Within at → length other ≡ 4 → Within other
    → m ≡ raised_at n (map (counter_cell bank 0) at) cs → z ≡ raised_at n (map (counter_cell bank 1) other) m → z ≡ counted n bank (two at other) cs
counted_row n bank at other cs m z four w four' w' em ez =
    ez ∙ ap (λ l. raised_at n (map (counter_cell bank 1) other) l) em ∙ counted_both n bank (two at other) cs (within_all at four w) (within_all other four' w')

-- what filter 1 gains leaves the estimate in filter 0
pub first_estimate : (n bank : ℕ) (at other cs : List ℕ) → length at ≡ 4 → Within at → length other ≡ 4 → Within other → bank * 2048 + 2048 ≤ length cs
    → estimate (raised_at n (map (counter_cell bank 1) other) cs) bank 0 at ≡ estimate cs bank 0 at
unfolding estimate
first_estimate n bank at other cs four w four' w' long =
    ap₂ min (ap₂ min (cell 0 (omega arith)) (cell 1 (omega arith))) (ap₂ min (cell 2 (omega arith)) (cell 3 (omega arith)))
  where
    apart : (k : ℕ) → k < 4 → (q : Bool) → member (counter_cell bank 0 (get_or at k 0)) (map (counter_cell bank 1) other) ≡ q → q ≡ false
    apart k h true e =
        let p : get_or at k 0 < 1024 = within_place at k w h in
        let b = cell_in bank 1 (counter_cell bank 0 (get_or at k 0)) other (within_all other four' w') (holds _ e) in
        absurd (omega arith)
    apart k h false e = refl

    cell : (k : ℕ) → k < 4 → counter_at (raised_at n (map (counter_cell bank 1) other) cs) bank 0 at k ≡ counter_at cs bank 0 at k
    cell k h =
        let j = counter_cell bank 0 (get_or at k 0) in
        other_cell n (map (counter_cell bank 1) other) cs j (cell_lt bank 0 k at cs w h (omega arith) long)
        (apart k h (member j (map (counter_cell bank 1) other)) refl)
