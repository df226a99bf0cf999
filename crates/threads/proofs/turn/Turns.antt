-- Clearing the cells of one kind, and what a move of the clock clears.
use mathlib.Core.Path.{◌≡◌, refl, ◌∙◌}
use mathlib.Core.List.{List}
use mathlib.Core.Bool.{Bool, true, false, ◌&&◌, ◌||◌}
use Prim.Native.Nat.{ℕ, zero, suc, ◌+◌, ◌*◌, ◌%◌, ◌≤◌, ◌<◌}
use native.Mathlib.Omega.{arith}
use native.Mathlib.Decide.{dec_lt}
use lib.Dec.{T, ltb, eqb}
use lib.ListN.{length, set}
use borrow.Author.Tests.{lt-ltb, le-ltb, ne_eqb}
use Rattle.rules.specs.Cells.{clear_cells}
use Rattle.rules.specs.Clock.{turned_threads}
use Rattle.rules.proofs.Tests.{same_test, lt_eq_facts, lt_eq_test}
use Rattle.rules.proofs.Clearing.{clear_same, clear_clear, Cleared, cleared_none, cleared_more}
use Rattle.rules.proofs.Clock.{turn_none, turn_one, turn_both, turned_index}
use Rattle.threads.specs.Kinds.{kind_below}

-- ---- the test

kind_in : (k n j : ℕ) → j < 3 * n → j % 3 ≡ k → T (kind_below k n j)
unfolding kind_below
kind_in k n j h e = lt_eq_test j (3 * n) (j % 3) k h e

kind_out : (k n j : ℕ) → T (kind_below k n j) → (j < 3 * n) × (j % 3 ≡ k)
unfolding kind_below
kind_out k n j t = lt_eq_facts j (3 * n) (j % 3) k t

-- ---- the loop

pub kind_none : (k n : ℕ) (old : List ℕ) → Cleared (kind_below k) n old 0 old
kind_none k n old = cleared_none (kind_below k) n old (λ j t. let h = kind_out k 0 j t in omega arith)

-- one group more
pub kind_more : {k n : ℕ} {old : List ℕ} {i : ℕ} {new : List ℕ} → Cleared (kind_below k) n old i new → k < 3 → i < n → 3 * n ≤ length old
    → Cleared (kind_below k) n old (i + 1) (set new (3 * i + k) 0)
kind_more {k = k} {i = i} c hk hi long =
    cleared_more c (3 * i + k) hi (omega arith) (kind_in k (i + 1) (3 * i + k) (omega arith) (omega arith))
    (λ j ne.
    same_test (kind_below k i j) (kind_below k (i + 1) j)
    (λ t. let o = kind_out k i j t in kind_in k (i + 1) j (omega arith) o.1)
    (λ t. let o = kind_out k (i + 1) j t in kind_in k i j (omega arith) o.1))

-- ---- a move of the clock from epoch e to epoch e'

-- the index counters of one filter
one_kind : (a : Bool) (x k : ℕ) → k < 2 → (a && eqb x k) ≡ (a && ltb x 2 && eqb x k)
one_kind false x k h = refl
one_kind true x k h = go (dec_lt x 2)
  where
    go : Dec (x < 2) → eqb x k ≡ (ltb x 2 && eqb x k)
    go (yes l) = rw (lt-ltb x 2 l)
    go (no l) = rw (le-ltb x 2 (omega arith), ne_eqb x k (omega arith))

-- those of both filters
both_kinds : (a : Bool) (x : ℕ) → (a && eqb x 1 || (a && eqb x 0)) ≡ (a && ltb x 2)
both_kinds false x = refl
both_kinds true zero = refl
both_kinds true (suc zero) = refl
both_kinds true (suc (suc x)) =
    rw (ne_eqb (suc (suc x)) 1 (omega arith), ne_eqb (suc (suc x)) 0 (omega arith), le-ltb (suc (suc x)) 2 (omega arith))

module _ (used e e' : ℕ) (l : List ℕ) where
  -- cell i is a used index counter
  abbrev index : ℕ → Bool
  index i = ltb i used && ltb (i % 3) 2

  -- no epoch has passed
  pub turned_none : e' ≤ e → l ≡ turned_threads used e e' l
  turned_none h = turn_none index (λ i. i % 3) e e' l h ∙ turned_index used e e' l

  -- one epoch has passed
  pub turned_one : (n : ℕ) → used ≡ 3 * n → e' ≡ e + 1 → clear_cells (kind_below (e % 2) n) l ≡ turned_threads used e e' l
  unfolding kind_below
  turned_one n u h =
      clear_same (kind_below (e % 2) n) (λ i. index i && eqb (i % 3) (e % 2))
      (λ i. rw u (one_kind (ltb i (3 * n)) (i % 3) (e % 2) (omega arith))) l
      ∙ turn_one index (λ i. i % 3) e e' l h
      ∙ turned_index used e e' l

  -- two or more epochs have passed
  pub turned_both : (n : ℕ) → used ≡ 3 * n → e + 1 < e' → clear_cells (kind_below 1 n) (clear_cells (kind_below 0 n) l) ≡ turned_threads used e e' l
  unfolding kind_below
  turned_both n u h =
      clear_clear (kind_below 1 n) (kind_below 0 n) index (λ i. rw u (both_kinds (ltb i (3 * n)) (i % 3))) l
      ∙ turn_both index (λ i. i % 3) e e' l h
      ∙ turned_index used e e' l
