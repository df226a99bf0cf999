-- The filters: an activation raises each counter of its row, for counters of any width; the estimate is no more than each counter.
use mathlib.Core.Path.{◌≡◌, refl, ◌∙◌, subst}
use mathlib.Core.Logic.{◌⊎◌, inl, inr}
use mathlib.Core.List.{List, [], ◌∷◌, map}
use mathlib.Core.Bool.{Bool, true, false, ◌||◌, cond}
use Prim.Native.Nat.{ℕ, zero, suc, ◌+◌, ◌≤◌, ◌<◌, min}
use native.Mathlib.Omega.{arith}
use native.Mathlib.Nat.{le-min, le_refl}
use native.Mathlib.Decide.{dec_lt}
use lib.Dec.{T, ltb, eqb, eqb→eq, eqb_refl}
use lib.ListN.{length, get_or, get_or-eq_default}
use borrow.Author.Tests.{lt-ltb, le-ltb, ltb-true, ltb-false}
use Rattle.rules.specs.Cells.{member, All}
use Rattle.rules.specs.State.{counter_cell}
use Rattle.rules.specs.Hash.{hash, places}
use Rattle.rules.specs.Filter.{two, estimate, raised, named, counted}
use Rattle.rules.proofs.Tests.{or_l, or_r, or_e, is_true, cond_yes}
use Rattle.rules.proofs.Cells.{length_map_cells, get_or_map_cells, all_map_from}

-- ---- one counter

pub raised_le : (n c : ℕ) → c ≤ raised n c
unfolding raised
raised_le n c = go (ltb c n)
  where
    go : (b : Bool) → c ≤ cond b (c + 1) c
    go true = omega arith
    go false = omega arith

pub raised_adds : (n c : ℕ) → min n (c + 1) ≤ raised n c
unfolding raised
raised_adds n c = go (ltb c n) refl
  where
    go : (b : Bool) → ltb c n ≡ b → min n (c + 1) ≤ cond b (c + 1) c
    go true e = omega arith
    go false e = omega (arith, ltb-false c n e)

pub raised_below : (n c : ℕ) → c < n → c + 1 ≡ raised n c
unfolding raised
raised_below n c h = rw (lt-ltb c n h)

pub raised_full : (n c : ℕ) → n ≤ c → c ≡ raised n c
unfolding raised
raised_full n c h = rw (le-ltb c n h)

-- The width of a counter is any bound m that the limit is below: the sum is below it too, and a counter stays below it.
pub sum_lt : (n c m : ℕ) → n < m → c < n → c + 1 < m
sum_lt n c m h k = omega arith

pub raised_lt : (n c m : ℕ) → n < m → c < m → raised n c < m
unfolding raised
raised_lt n c m h k = go (ltb c n) refl
  where
    go : (b : Bool) → ltb c n ≡ b → cond b (c + 1) c < m
    go true e = sum_lt n c m h (ltb-true c n e)
    go false e = k

-- ---- all counters

pub length_counted : (n b : ℕ) (at : ℕ → List ℕ) (cs : List ℕ) → length (counted n b at cs) ≡ length cs
unfolding counted
length_counted n b at cs = length_map_cells (λ i c. cond (named b at i) (raised n c) c) cs

pub counted_cell : (n b : ℕ) (at : ℕ → List ℕ) (cs : List ℕ) (j : ℕ) → j < length cs
    → get_or (counted n b at cs) j 0 ≡ cond (named b at j) (raised n (get_or cs j 0)) (get_or cs j 0)
unfolding counted
counted_cell n b at cs j h = get_or_map_cells (λ i c. cond (named b at i) (raised n c) c) j cs h

pub counted_le : (n b : ℕ) (at : ℕ → List ℕ) (cs : List ℕ) (j : ℕ) → get_or cs j 0 ≤ get_or (counted n b at cs) j 0
counted_le n b at cs j = go (dec_lt j (length cs))
  where
    pick : (q : Bool) → get_or cs j 0 ≤ cond q (raised n (get_or cs j 0)) (get_or cs j 0)
    pick true = raised_le n (get_or cs j 0)
    pick false = le_refl (get_or cs j 0)

    go : Dec (j < length cs) → get_or cs j 0 ≤ get_or (counted n b at cs) j 0
    go (yes h) = rw (counted_cell n b at cs j h) (pick (named b at j))
    go (no h) = let z : length cs ≤ j = omega arith in rw (get_or-eq_default cs 0 z) (omega arith)

-- a place of the row in filter f names its counter
pub member_map : (g : ℕ → ℕ) (x : ℕ) (l : List ℕ) → T (member x l) → T (member (g x) (map g l))
member_map g x [] m = m
member_map g x (y ∷ ys) m = go (or_e (eqb x y) (member x ys) m) (member_map g x ys)
  where
    go : T (eqb x y) ⊎ T (member x ys) → (T (member x ys) → T (member (g x) (map g ys))) → T (eqb (g x) (g y) || member (g x) (map g ys))
    go (inl k) ih = or_l (eqb (g x) (g y)) (member (g x) (map g ys)) (subst (λ z. T (eqb (g x) (g z))) (eqb→eq x y k) (eqb_refl (g x)))
    go (inr k) ih = or_r (eqb (g x) (g y)) (member (g x) (map g ys)) (ih k)

named_place : (b : ℕ) (at : ℕ → List ℕ) (f h : ℕ) → f < 2 → T (member h (at f)) → T (named b at (counter_cell b f h))
unfolding named
named_place b at zero h f2 m =
    rw (is_true (member (counter_cell b 0 h) (map (counter_cell b 0) (at 0))) (member_map (counter_cell b 0) h (at 0) m)) tt
named_place b at (suc zero) h f2 m =
    or_r (member (counter_cell b 1 h) (map (counter_cell b 0) (at 0))) (member (counter_cell b 1 h) (map (counter_cell b 1) (at 1)))
    (member_map (counter_cell b 1) h (at 1) m)
named_place b at (suc (suc f)) h f2 m = absurd (omega arith)

-- an activation raises it
pub counted_raises : (n b : ℕ) (at : ℕ → List ℕ) (cs : List ℕ) (f h : ℕ) → f < 2 → T (member h (at f)) → counter_cell b f h < length cs
    → get_or (counted n b at cs) (counter_cell b f h) 0 ≡ raised n (get_or cs (counter_cell b f h) 0)
counted_raises n b at cs f h f2 m k =
    let j = counter_cell b f h in
    counted_cell n b at cs j k ∙ cond_yes (named b at j) (raised n (get_or cs j 0)) (get_or cs j 0) (named_place b at f h f2 m)

pub counted_adds : (n b : ℕ) (at : ℕ → List ℕ) (cs : List ℕ) (f h : ℕ) → f < 2 → T (member h (at f)) → counter_cell b f h < length cs
    → min n (get_or cs (counter_cell b f h) 0 + 1) ≤ get_or (counted n b at cs) (counter_cell b f h) 0
counted_adds n b at cs f h f2 m k = rw (counted_raises n b at cs f h f2 m k) (raised_adds n (get_or cs (counter_cell b f h) 0))

-- counters stay below any bound that the threshold is below
pub counted_fits : (m n b : ℕ) (at : ℕ → List ℕ) (cs : List ℕ) → n < m → All (λ c. c < m) cs → All (λ c. c < m) (counted n b at cs)
unfolding counted
counted_fits m n b at cs h a = all_map_from (λ c. c < m) (λ i c. cond (named b at i) (raised n c) c) (λ i c k. pick (named b at i) c k) 0 cs a
  where
    pick : (q : Bool) (c : ℕ) → c < m → cond q (raised n c) c < m
    pick true c k = raised_lt n c m h k
    pick false c k = k

-- ---- the estimate

-- a cell of a list is in the list
pub member_cell : (l : List ℕ) (k : ℕ) → k < length l → T (member (get_or l k 0) l)
member_cell [] k h = absurd (omega arith)
member_cell (x ∷ xs) zero h = or_l (eqb x x) (member x xs) (eqb_refl x)
member_cell (x ∷ xs) (suc k) h = or_r (eqb (get_or xs k 0) x) (member (get_or xs k 0) xs) (member_cell xs k (omega arith))

-- each of a row's four places
pub place_member : (seeds : List ℕ) (r k : ℕ) → k < 4 → T (member (get_or (places seeds r) k 0) (places seeds r))
unfolding places
place_member seeds r k h = member_cell (hash seeds 0 r ∷ hash seeds 1 r ∷ hash seeds 2 r ∷ hash seeds 3 r ∷ []) k h

-- what is at most each of the row's counters is at most the estimate
pub estimate_least : (seeds cs : List ℕ) (b f r k : ℕ) → ((h : ℕ) → T (member h (places seeds r)) → k ≤ get_or cs (counter_cell b f h) 0)
    → k ≤ estimate cs b f (places seeds r)
unfolding estimate
estimate_least seeds cs b f r k g =
    le-min (le-min (at_place 0 (omega arith)) (at_place 1 (omega arith))) (le-min (at_place 2 (omega arith)) (at_place 3 (omega arith)))
  where
    at_place : (j : ℕ) → j < 4 → k ≤ get_or cs (counter_cell b f (get_or (places seeds r) j 0)) 0
    at_place j h = g (get_or (places seeds r) j 0) (place_member seeds r j h)

-- ---- the same places in both filters

pub both_same : {a b : List ℕ} → a ≡ b → two a a ≡ (λ f. b)
both_same {a = a} {b = b} e = λ i f. (same (eqb f 0) ∙ e) i
  where
    same : (q : Bool) → cond q a a ≡ a
    same true = refl
    same false = refl
