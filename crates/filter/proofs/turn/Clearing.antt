-- Clearing: a run of cells, a filter in all banks, and what a turn of the epoch clears, against the rules' `turned_counters`.
use mathlib.Core.Path.{◌≡◌, refl, ap, ◌∙◌, subst}
use mathlib.Core.Logic.{◌⊎◌, inl, inr}
use mathlib.Core.List.{List, map}
use mathlib.Core.Bool.{Bool, true, false, ◌||◌, cond}
use Prim.Native.Nat.{ℕ, ◌+◌, ◌-◌, ◌*◌, ◌/◌, ◌%◌, ◌≤◌, ◌<◌}
use native.Mathlib.Omega.{arith}
use native.Mathlib.Decide.{dec_lt}
use lib.Dec.{T, leb, ltb, leb→le, le→leb, ltb→lt, lt→ltb}
use lib.ListN.{length, get_or}
use borrow.Rule.Slice.PartMut.{put_mid}
use borrow.Author.Rules.{rules}
use Rattle.std.proofs.lemmas.List.{places, length-map, map-append, take-map, drop-map}
use Rattle.rules.specs.Cells.{clear_cells}
use Rattle.rules.specs.Clock.{turned_counters}
use Rattle.rules.proofs.Tests.{and_i, and_l, and_r, or_l, or_r, or_e, holds, same_test, lt_eq_facts, lt_eq_test}
use Rattle.rules.proofs.Cells.{is_map_cells}
use Rattle.rules.proofs.Clearing.{clear_same, clear_clear, Cleared, cleared_none}
use Rattle.rules.proofs.Clock.{turn_one, turn_both}
use Rattle.filter.specs.turn.Changes.{in_run, in_filter}

-- ---- tests of a cell, as facts

in_run_lem : (start n i : ℕ) → T (in_run start n i) → (start ≤ i) × (i < start + n)
unfolding in_run
in_run_lem start n i t = (leb→le start i (and_l (leb start i) (ltb i (start + n)) t), ltb→lt i (start + n) (and_r (leb start i) (ltb i (start + n)) t))

is_run : (start n i : ℕ) → start ≤ i → i < start + n → T (in_run start n i)
unfolding in_run
is_run start n i h k = and_i (leb start i) (ltb i (start + n)) (le→leb start i h) (lt→ltb i (start + n) k)

in_filter_lem : (banks f i : ℕ) → T (in_filter banks f i) → (i < banks * 2048) × (i / 1024 % 2 ≡ f)
unfolding in_filter
in_filter_lem banks f i t = lt_eq_facts i (banks * 2048) (i / 1024 % 2) f t

is_filter : (banks f i : ℕ) → i < banks * 2048 → i / 1024 % 2 ≡ f → T (in_filter banks f i)
unfolding in_filter
is_filter banks f i h e = lt_eq_test i (banks * 2048) (i / 1024 % 2) f h e

-- ---- a run of cells

out_of_run : (start n i : ℕ) → in_run start n i ≡ false → start ≤ i → start + n ≤ i
out_of_run start n i e h = go (dec_lt i (start + n))
  where
    go : Dec (i < start + n) → start + n ≤ i
    go (yes k) = absurd (subst (λ b. T b) e (is_run start n i h k))
    go (no k) = omega arith

-- a list in whose place from start on stand n cells of 0
run_filled : (start k n : ℕ) (cs run : List ℕ) → k ≡ n → length run ≡ n → start + n ≤ length cs → ((j : ℕ) → j < n → get_or run j 0 ≡ 0)
    → put_mid start k cs run ≡ clear_cells (in_run start n) cs
run_filled start k n cs run ek long fits zeros =
    is_map_cells (λ i c. cond (in_run start n i) 0 c) (put_mid start k cs run) cs (search (rules, places))
    (λ j h. cell j h (in_run start n j) refl (dec_lt j start))
  where
    cell : (j : ℕ) → j < length cs → (b : Bool) → in_run start n j ≡ b → Dec (j < start) → get_or (put_mid start k cs run) j 0 ≡ cond b 0 (get_or cs j 0)
    cell j h true e d =
        let w = in_run_lem start n j (holds _ e) in
        let z : get_or run (j - start) 0 ≡ 0 = zeros (j - start) (omega arith) in
        grind (arith, places)
    cell j h false e (yes p) = grind (arith, places)
    cell j h false e (no p) =
        let w : start + n ≤ j = out_of_run start n j e (omega arith) in
        grind (arith, places)

-- the same of counters, by their numbers: in the place from start on stand n cleared counters
pub run_cleared : {A : Type 0} (value : A → ℕ) (start k n : ℕ) (cs run : List A) → k ≡ n → length run ≡ n → start + n ≤ length cs
    → ((j : ℕ) → j < n → get_or (map value run) j 0 ≡ 0) → map value (put_mid start k cs run) ≡ clear_cells (in_run start n) (map value cs)
run_cleared value start k n cs run ek long fits zeros =
    let parts : map value (put_mid start k cs run) ≡ put_mid start k (map value cs) (map value run) = simp (map-append, take-map, drop-map) in
    parts ∙ run_filled start k n (map value cs) (map value run) ek (simp length-map long) (simp length-map fits) zeros

-- the run from cell 0 on
pub run_used : (used : ℕ) (cs : List ℕ) → clear_cells (in_run 0 used) cs ≡ clear_cells (λ i. ltb i used) cs
run_used used cs =
    clear_same (in_run 0 used) (λ i. ltb i used)
    (λ i.
    same_test (in_run 0 used i) (ltb i used) (λ t. let k = in_run_lem 0 used i t in lt→ltb i used (omega arith))
    (λ t. let k = ltb→lt i used t in is_run 0 used i (omega arith) (omega arith)))
    cs

-- ---- a filter in all banks

-- cell i is a counter of filter f in one of the first b banks
abbrev pub banks_of : ℕ → ℕ → ℕ → Bool
banks_of f b i = in_filter b f i

pub filter_none : (f banks : ℕ) (old : List ℕ) → Cleared (banks_of f) banks old 0 old
filter_none f banks old = cleared_none (banks_of f) banks old (λ j t. omega (arith, in_filter_lem 0 f j t))

-- the filter's 1,024 cells in one bank more
more_in : (b f i : ℕ) → f < 2 → T (in_run (b * 2048 + f * 1024) 1024 i || in_filter b f i) → T (in_filter (b + 1) f i)
more_in b f i h t = go (or_e (in_run (b * 2048 + f * 1024) 1024 i) (in_filter b f i) t)
  where
    go : T (in_run (b * 2048 + f * 1024) 1024 i) ⊎ T (in_filter b f i) → T (in_filter (b + 1) f i)
    go (inl x) = let k = in_run_lem (b * 2048 + f * 1024) 1024 i x in is_filter (b + 1) f i (omega arith) (omega arith)
    go (inr x) = let k = in_filter_lem b f i x in is_filter (b + 1) f i (omega arith) k.1

more_is : (b f i : ℕ) → f < 2 → T (in_filter (b + 1) f i) → T (in_run (b * 2048 + f * 1024) 1024 i || in_filter b f i)
more_is b f i h t = go (dec_lt i (b * 2048)) (in_filter_lem (b + 1) f i t)
  where
    go : Dec (i < b * 2048) → (i < (b + 1) * 2048) × (i / 1024 % 2 ≡ f) → T (in_run (b * 2048 + f * 1024) 1024 i || in_filter b f i)
    go (yes k) x = or_r (in_run (b * 2048 + f * 1024) 1024 i) (in_filter b f i) (is_filter b f i k x.1)
    go (no k) x = or_l (in_run (b * 2048 + f * 1024) 1024 i) (in_filter b f i) (is_run (b * 2048 + f * 1024) 1024 i (omega arith) (omega arith))

pub filter_more : (f : ℕ) {banks : ℕ} {old : List ℕ} {b : ℕ} {new : List ℕ} → Cleared (banks_of f) banks old b new → (next : List ℕ) → f < 2 → b < banks
    → length next ≡ length new → next ≡ clear_cells (in_run (b * 2048 + f * 1024) 1024) new → Cleared (banks_of f) banks old (b + 1) next
filter_more f {old = old} {b = b} c next h hb long e =
    record {
      most = omega arith;
      long = long ∙ c.long;
      is = e ∙ ap (clear_cells (in_run (b * 2048 + f * 1024) 1024)) c.is
          ∙ clear_clear (in_run (b * 2048 + f * 1024) 1024) (in_filter b f) (in_filter (b + 1) f)
          (λ i. same_test (in_run (b * 2048 + f * 1024) 1024 i || in_filter b f i) (in_filter (b + 1) f i) (more_in b f i h) (more_is b f i h)) old;
    }

-- ---- a turn of the epoch

-- from one epoch to the next the filter that was active is cleared
pub turned_one : (banks e e' : ℕ) (cs : List ℕ) → e' ≡ e + 1 → clear_cells (in_filter banks (e % 2)) cs ≡ turned_counters (banks * 2048) e e' cs
unfolding turned_counters in_filter
turned_one banks e e' cs h = turn_one (λ i. ltb i (banks * 2048)) (λ i. i / 1024 % 2) e e' cs h

-- after two epochs or more both are
pub turned_both : (used e e' : ℕ) (cs : List ℕ) → e + 1 < e' → clear_cells (λ i. ltb i used) cs ≡ turned_counters used e e' cs
unfolding turned_counters
turned_both used e e' cs h = turn_both (λ i. ltb i used) (λ i. i / 1024 % 2) e e' cs h
