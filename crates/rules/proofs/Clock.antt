-- What a move of the clock clears: nothing within an epoch, from one epoch to the next the cells of the filter that was active,
-- after two epochs or more those of both filters. The counters and the index counters of the threads are cleared by one rule.
use mathlib.Core.Path.{◌≡◌, refl, sym, ap, ◌∙◌, subst}
use mathlib.Core.List.{List}
use mathlib.Core.Bool.{Bool, true, false, not, ◌&&◌}
use Prim.Native.Nat.{ℕ, ◌+◌, ◌/◌, ◌%◌, ◌≤◌, ◌<◌}
use native.Mathlib.Omega.{arith}
use native.Mathlib.Nat.{le_refl}
use lib.Dec.{T, ltb, eqb, T_not, not_T, ltb→lt}
use lib.ListN.{length, get_or}
use borrow.Author.Tests.{lt-ltb, le-ltb, eq-eqb, ne_eqb}
use Rattle.rules.specs.declared.Setting.{Setting}
use Rattle.rules.specs.Cells.{clear_cells}
use Rattle.rules.specs.State.{threads_used, counter_cell, thread_cell}
use Rattle.rules.specs.Clock.{clears, turned_counters, turned_threads}
use Rattle.rules.proofs.Tests.{and_l, and_r, and_true, and_assoc, fails}
use Rattle.rules.proofs.Clearing.{length_clear, clear_kept, clear_none, clear_same}

-- ---- the filters that are cleared

pub clears_none : (e e' f : ℕ) → e' ≤ e → clears e e' f ≡ false
clears_none e e' f h = simp (le-ltb (e + 1) e' (omega arith), ne_eqb e' (e + 1) (λ k. omega arith))

pub clears_one : (e e' f : ℕ) → e' ≡ e + 1 → clears e e' f ≡ eqb f (e % 2)
clears_one e e' f h = simp (le-ltb (e + 1) e' (omega arith), eq-eqb e' (e + 1) h)

pub clears_both : (e e' f : ℕ) → e + 1 < e' → clears e e' f ≡ true
clears_both e e' f h = simp (lt-ltb (e + 1) e' h)

-- within an epoch no filter is cleared, and at the next one not the filter that is then active
pub same_clears : (e f : ℕ) → T (not (clears e e f))
same_clears e f = fails (clears e e f) (clears_none e e f (le_refl e))

pub next_clears : (e : ℕ) → T (not (clears e (e + 1) ((e + 1) % 2)))
next_clears e =
    fails (clears e (e + 1) ((e + 1) % 2)) (clears_one e (e + 1) ((e + 1) % 2) refl ∙ ne_eqb ((e + 1) % 2) (e % 2) (omega arith))

-- ---- the cells that are cleared: those that pass the test p and are of a cleared filter; kind gives the filter of a cell

module _ (p : ℕ → Bool) (kind : ℕ → ℕ) (e e' : ℕ) (cs : List ℕ) where
  pub turn_none : e' ≤ e → cs ≡ clear_cells (λ i. p i && clears e e' (kind i)) cs
  turn_none h =
      clear_none (λ i. p i && clears e e' (kind i))
      (λ i t. rw (clears_none e e' (kind i) h) at (and_r (p i) (clears e e' (kind i)) t)) cs

  pub turn_one : e' ≡ e + 1 → clear_cells (λ i. p i && eqb (kind i) (e % 2)) cs ≡ clear_cells (λ i. p i && clears e e' (kind i)) cs
  turn_one h =
      clear_same (λ i. p i && eqb (kind i) (e % 2)) (λ i. p i && clears e e' (kind i))
      (λ i. ap (λ b. p i && b) (sym (clears_one e e' (kind i) h))) cs

  pub turn_both : e + 1 < e' → clear_cells p cs ≡ clear_cells (λ i. p i && clears e e' (kind i)) cs
  turn_both h =
      clear_same p (λ i. p i && clears e e' (kind i))
      (λ i. sym (and_true (p i)) ∙ ap (λ b. p i && b) (sym (clears_both e e' (kind i) h))) cs

-- ---- the counters

pub length_turned : (used e e' : ℕ) (cs : List ℕ) → length (turned_counters used e e' cs) ≡ length cs
unfolding turned_counters
length_turned used e e' cs = length_clear (λ i. ltb i used && clears e e' (i / 1024 % 2)) cs

pub counters_none : (used e e' : ℕ) (cs : List ℕ) → e' ≤ e → cs ≡ turned_counters used e e' cs
unfolding turned_counters
counters_none used e e' cs h = turn_none (λ i. ltb i used) (λ i. i / 1024 % 2) e e' cs h

-- a counter of a filter that is not cleared
pub turned_kept : (used e e' b f h : ℕ) (cs : List ℕ) → f < 2 → h < 1024 → T (not (clears e e' f))
    → get_or (turned_counters used e e' cs) (counter_cell b f h) 0 ≡ get_or cs (counter_cell b f h) 0
unfolding turned_counters
turned_kept used e e' b f h cs f2 h2 nc =
    clear_kept (λ i. ltb i used && clears e e' (i / 1024 % 2)) (counter_cell b f h) cs
    (not_T (ltb (counter_cell b f h) used && clears e e' (counter_cell b f h / 1024 % 2))
    (λ q. T_not (clears e e' f) nc (subst (λ x. T (clears e e' x)) filter (and_r (ltb (counter_cell b f h) used) (clears e e' (counter_cell b f h / 1024 % 2)) q))))
  where
    filter : counter_cell b f h / 1024 % 2 ≡ f
    filter = omega arith

-- ---- the thread counters

pub length_turned_threads : (used e e' : ℕ) (ts : List ℕ) → length (turned_threads used e e' ts) ≡ length ts
unfolding turned_threads
length_turned_threads used e e' ts = length_clear (λ i. ltb i used && (ltb (i % 3) 2 && clears e e' (i % 3))) ts

-- the cells that a turn clears are the used index counters of a cleared filter
pub turned_index : (used e e' : ℕ) (ts : List ℕ)
    → clear_cells (λ i. ltb i used && ltb (i % 3) 2 && clears e e' (i % 3)) ts ≡ turned_threads used e e' ts
unfolding turned_threads
turned_index used e e' ts =
    clear_same (λ i. ltb i used && ltb (i % 3) 2 && clears e e' (i % 3)) (λ i. ltb i used && (ltb (i % 3) 2 && clears e e' (i % 3)))
    (λ i. and_assoc (ltb i used) (ltb (i % 3) 2) (clears e e' (i % 3))) ts

-- a turn keeps what is in flight
pub turned_flying : (s : Setting) (bank thread e e' : ℕ) (ts : List ℕ)
    → get_or (turned_threads (threads_used s) e e' ts) (thread_cell s bank thread 2) 0 ≡ get_or ts (thread_cell s bank thread 2) 0
unfolding turned_threads
turned_flying s bank thread e e' ts =
    clear_kept (λ i. ltb i (threads_used s) && (ltb (i % 3) 2 && clears e e' (i % 3))) (thread_cell s bank thread 2) ts stays
  where
    in_used : Bool
    in_used = ltb (thread_cell s bank thread 2) (threads_used s)

    counter : Bool
    counter = ltb (thread_cell s bank thread 2 % 3) 2

    cleared : Bool
    cleared = clears e e' (thread_cell s bank thread 2 % 3)

    stays : T (not (in_used && (counter && cleared)))
    stays = not_T (in_used && (counter && cleared)) (λ q.
        omega (arith, ltb→lt (thread_cell s bank thread 2 % 3) 2 (and_l counter cleared (and_r in_used (counter && cleared) q))))
