-- Clearing cells of a list by a test of their place: each cell, one cell more, two tests in a row, equal tests;
-- and a loop that clears cell by cell.
use mathlib.Core.Path.{◌≡◌, refl, sym, ap, ◌∙◌, subst}
use mathlib.Core.Logic.{◌≢◌}
use mathlib.Core.List.{List, [], ◌∷◌}
use mathlib.Core.Bool.{Bool, true, false, not, ◌||◌, cond}
use Prim.Native.Nat.{ℕ, zero, suc, ◌+◌, ◌≤◌, ◌<◌}
use native.Mathlib.Omega.{arith}
use native.Mathlib.Nat.{zero-add, add-zero}
use lib.Dec.{T, ltb, ltb→lt, lt→ltb, not_T}
use lib.ListN.{length, get_or, set, length-set}
use Rattle.rules.specs.Cells.{map_from, clear_cells}
use Rattle.rules.proofs.Tests.{cond_yes, cond_no, same_test}
use Rattle.rules.proofs.Cells.{length_map_cells, get_or_map_cells, is_map_cells, get_d_kept, map_same, map_map, store_map}

pub length_clear : (p : ℕ → Bool) (l : List ℕ) → length (clear_cells p l) ≡ length l
length_clear p l = length_map_cells (λ i c. cond (p i) 0 c) l

pub clear_kept : (p : ℕ → Bool) (j : ℕ) (cs : List ℕ) → T (not (p j)) → get_or (clear_cells p cs) j 0 ≡ get_or cs j 0
clear_kept p j cs h = get_d_kept (λ i c. cond (p i) 0 c) 0 j cs (λ c. ap (λ x. cond (p x) 0 c) (zero-add j) ∙ cond_no (p j) 0 c h)

pub clear_zero : (p : ℕ → Bool) (j : ℕ) (cs : List ℕ) → T (p j) → get_or (clear_cells p cs) j 0 ≡ 0
clear_zero p j cs h = go 0 j cs (subst (λ x. T (p x)) (sym (zero-add j)) h)
  where
    go : (i k : ℕ) (l : List ℕ) → T (p (i + k)) → get_or (map_from (λ i c. cond (p i) 0 c) i l) k 0 ≡ 0
    go i k [] x = refl
    go i zero (c ∷ l) x = cond_yes (p i) 0 c (rw add-zero at x)
    go i (suc k) (c ∷ l) x = go (suc i) k l (subst (λ y. T (p y)) (omega arith) x)

-- a test that holds nowhere
pub clear_none : (p : ℕ → Bool) → ((i : ℕ) → T (p i) → ⊥) → (l : List ℕ) → l ≡ clear_cells p l
clear_none p h l = sym (map_same (λ i c. cond (p i) 0 c) (λ i c. cond_no (p i) 0 c (not_T (p i) (h i))) l)

-- two tests that are the same at each place
pub clear_same : (p q : ℕ → Bool) → ((i : ℕ) → p i ≡ q i) → (l : List ℕ) → clear_cells p l ≡ clear_cells q l
clear_same p q h l =
    is_map_cells (λ i c. cond (q i) 0 c) (clear_cells p l) l (length_clear p l)
    (λ j k. get_or_map_cells (λ i c. cond (p i) 0 c) j l k ∙ ap (λ b. cond b 0 (get_or l j 0)) (h j))

-- one cell more: the test q holds where p does and at k
clear_more : (p q : ℕ → Bool) (k : ℕ) (l : List ℕ) → k < length l → T (q k) → ((i : ℕ) → i ≢ k → p i ≡ q i)
    → set (clear_cells p l) k 0 ≡ clear_cells q l
clear_more p q k l h qk same =
    store_map (λ i c. cond (p i) 0 c) (λ i c. cond (q i) 0 c) l k 0 h (sym (cond_yes (q k) 0 (get_or l k 0) qk))
    (λ i c n. ap (λ b. cond b 0 c) (same i n))

cond_cond : (a b : Bool) (c : ℕ) → cond a 0 (cond b 0 c) ≡ cond (a || b) 0 c
cond_cond true b c = refl
cond_cond false b c = refl

-- two clearings clear what either does
pub clear_clear : (p q r : ℕ → Bool) → ((i : ℕ) → (p i || q i) ≡ r i) → (l : List ℕ) → clear_cells p (clear_cells q l) ≡ clear_cells r l
clear_clear p q r e l =
    map_map (λ i c. cond (p i) 0 c) (λ i c. cond (q i) 0 c) (λ i c. cond (r i) 0 c) l
    (λ i c. cond_cond (p i) (q i) c ∙ ap (λ b. cond b 0 c) (e i))

-- ---- a loop that clears one cell in each of n steps; p i is the test of the cells that the first i steps clear

-- the list `new` after i steps on `old`
pub record Cleared (p : ℕ → ℕ → Bool) (n : ℕ) (old : List ℕ) (i : ℕ) (new : List ℕ) : Type 0 where
  pub most : i ≤ n
  pub long : length new ≡ length old
  pub is : new ≡ clear_cells (p i) old

pub cleared_none : (p : ℕ → ℕ → Bool) (n : ℕ) (old : List ℕ) → ((j : ℕ) → T (p 0 j) → ⊥) → Cleared p n old 0 old
cleared_none p n old h = record { most = omega arith; long = refl; is = clear_none (p 0) h old }

module _ {p : ℕ → ℕ → Bool} {n : ℕ} {old : List ℕ} {i : ℕ} {new : List ℕ} (c : Cleared p n old i new) where
  -- a step that clears cell k
  pub cleared_more : (k : ℕ) → i < n → k < length old → T (p (i + 1) k) → ((j : ℕ) → j ≢ k → p i j ≡ p (i + 1) j) → Cleared p n old (i + 1) (set new k 0)
  cleared_more k hi hk here same =
      record {
        most = omega arith;
        long = length-set new k 0 ∙ c.long;
        is = ap (λ l. set l k 0) c.is ∙ clear_more (p i) (p (i + 1)) k old hk here same;
      }

  -- the last step was taken
  pub cleared_all : n ≤ i → new ≡ clear_cells (p n) old
  cleared_all h =
      let z : i ≡ n = omega arith in
      subst (λ x. new ≡ clear_cells (p x) old) z c.is

-- ---- the first cells

abbrev pub first : ℕ → ℕ → Bool
first n i = ltb i n

pub first_none : (n : ℕ) (old : List ℕ) → Cleared first n old 0 old
first_none n old = cleared_none first n old (λ j t. omega (arith, ltb→lt j 0 t))

pub first_more : {n : ℕ} {old : List ℕ} {i : ℕ} {new : List ℕ} → Cleared first n old i new → i < n → n ≤ length old → Cleared first n old (i + 1) (set new i 0)
first_more {i = i} c hi long =
    cleared_more c i hi (omega arith) (lt→ltb i (i + 1) (omega arith))
    (λ j ne.
    same_test (ltb j i) (ltb j (i + 1))
    (λ t. let k : j < i = ltb→lt j i t in lt→ltb j (i + 1) (omega arith))
    (λ t. let k : j < i + 1 = ltb→lt j (i + 1) t in lt→ltb j i (omega arith)))
