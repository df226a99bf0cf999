-- The laws of a run that does not fall.
use Rattle.std.proofs.Common.{◌≡◌, ℕ, zero, suc, ◌+◌, ◌-◌, ◌<◌, ◌≤◌, Bool, true, false, MatchBool, T, leb, List, length, get_or, take, drop, nat_cmp, is_le, sym, ◌∙◌, add-one, arith, rules, le→leb, leb→le}
use Rattle.std.specs.List.{IsAllAdjacentAnswer}
use Rattle.std.specs.List.Sorted.{IsNonDecreasing}
use Rattle.std.proofs.lemmas.List.{get_or-take, get_or-drop, length-drop, length-take-le}
use Rattle.std.proofs.lemmas.List.Sorted.{non_decreasing_from_is_sorted}
use native.Mathlib.Decide.{dec_lt}
use Rattle.rules.specs.Cells.{every}
use Rattle.rules.proofs.Tests.{and_i, every_at, every_all, is_true}
use Rattle.history.proofs.runs.Results.{rejected}
use Rattle.history.specs.Runs.{never_falls}

pub run_none : (ticks : List ℕ) (i : ℕ) → T (never_falls ticks i 0)
unfolding never_falls
run_none ticks i = tt

pub run_more : (ticks : List ℕ) (i k : ℕ) → T (never_falls ticks i k) → get_or ticks (i + k) 0 ≤ get_or ticks (i + k + 1) 0 → T (never_falls ticks i (k + 1))
unfolding never_falls
run_more ticks i k t h =
    rw (add-one k)
    (and_i (every k (λ j. leb (get_or ticks (i + j) 0) (get_or ticks (i + j + 1) 0))) (leb (get_or ticks (i + k) 0) (get_or ticks (i + k + 1) 0)) t
    (le→leb (get_or ticks (i + k) 0) (get_or ticks (i + k + 1) 0) h))

pub run_at : (ticks : List ℕ) (i n k : ℕ) → T (never_falls ticks i n) → k < n → get_or ticks (i + k) 0 ≤ get_or ticks (i + k + 1) 0
unfolding never_falls
run_at ticks i n k t h =
    leb→le (get_or ticks (i + k) 0) (get_or ticks (i + k + 1) 0)
    (every_at n (λ j. leb (get_or ticks (i + j) 0) (get_or ticks (i + j + 1) 0)) t k h)

pub run_all : (ticks : List ℕ) (i n : ℕ) → ((k : ℕ) → k < n → get_or ticks (i + k) 0 ≤ get_or ticks (i + k + 1) 0) → T (never_falls ticks i n)
unfolding never_falls
run_all ticks i n f =
    every_all n (λ j. leb (get_or ticks (i + j) 0) (get_or ticks (i + j + 1) 0))
    (λ k h. le→leb (get_or ticks (i + k) 0) (get_or ticks (i + k + 1) 0) (f k h))

-- in a run that does not fall, no cell is below the first
pub run_rises : (ticks : List ℕ) (i n k : ℕ) → T (never_falls ticks i n) → k ≤ n → get_or ticks i 0 ≤ get_or ticks (i + k) 0
run_rises ticks i n zero t h =
    let z : i + 0 ≡ i = omega arith in
    rw z (omega arith)
run_rises ticks i n (suc k) t h =
    let z : i + suc k ≡ i + k + 1 = omega arith in
    rw z (omega (arith, run_rises ticks i n k t (omega arith), run_at ticks i n k t (omega arith)))

-- a part of a run
pub run_part : (ticks : List ℕ) (i n k m : ℕ) → T (never_falls ticks i n) → k + m ≤ n → T (never_falls ticks (i + k) m)
run_part ticks i n k m t h =
    run_all ticks (i + k) m
    (λ j jh.
    let z : i + k + j ≡ i + (k + j) = omega arith in
    rw z (run_at ticks i n (k + j) t (omega arith)))

-- two runs in a row
pub run_join : (ticks : List ℕ) (i k m : ℕ) → T (never_falls ticks i k) → T (never_falls ticks (i + k) m) → T (never_falls ticks i (k + m))
run_join ticks i k m low high = run_all ticks i (k + m) (λ j jh. go j jh (dec_lt j k))
  where
    go : (j : ℕ) → j < k + m → Dec (j < k) → get_or ticks (i + j) 0 ≤ get_or ticks (i + j + 1) 0
    go j jh (yes l) = run_at ticks i k j low l
    go j jh (no l) =
        let z : i + k + (j - k) ≡ i + j = omega arith in
        rw z at (run_at ticks (i + k) m (j - k) high (omega arith))

-- the m + 1 cells from place i on, as a list of their own, as `ticks[i..i + m + 1]` gives them
abbrev pub run_of : List ℕ → ℕ → ℕ → List ℕ
run_of ticks i m = take (i + m + 1 - i) (drop i ticks)

run_cell : (ticks : List ℕ) (i m k : ℕ) → k ≤ m → get_or (run_of ticks i m) k 0 ≡ get_or ticks (i + k) 0
run_cell ticks i m k h =
    let l : k < i + m + 1 - i = omega arith in
    get_or-take (i + m + 1 - i) (drop i ticks) k 0 l ∙ get_or-drop i ticks k 0

-- whether the run as a list of its own is sorted
pub run_sorted : (ticks : List ℕ) (i m : ℕ) (r : Bool) → i + m < length ticks
    → IsAllAdjacentAnswer (λ x y b. is_le (nat_cmp x y) ≡ b) (run_of ticks i m) r → r ≡ never_falls ticks i m
run_sorted ticks i m r h e = go r (non_decreasing_from_is_sorted (run_of ticks i m) r e)
  where
    long : length (run_of ticks i m) ≡ m + 1
    long = length-take-le (i + m + 1 - i) (drop i ticks) (rw length-drop (omega arith)) ∙ omega arith

    next : (k : ℕ) → i + (k + 1) ≡ i + k + 1
    next k = omega arith

    go : (r : Bool) → MatchBool r (IsNonDecreasing (run_of ticks i m)) ((k : ℕ) × (k + 1 < length (run_of ticks i m)) × ((d : ℕ) → get_or (run_of ticks i m) (k + 1) d < get_or (run_of ticks i m) k d)) → r ≡ never_falls ticks i m
    go true s = sym (is_true (never_falls ticks i m) (run_all ticks i m (λ k l. rw (run_cell ticks i m k (omega arith), run_cell ticks i m (k + 1) (omega arith), next k) at (s k (k + 1) 0 (omega arith) (omega (arith, long))))))
    go false s =
        let f : get_or ticks (i + s.0 + 1) 0 < get_or ticks (i + s.0) 0 = rw (run_cell ticks i m s.0 (omega (arith, long, s.1)), run_cell ticks i m (s.0 + 1) (omega (arith, long, s.1)), next s.0) at (s.2 0) in
        rejected (never_falls ticks i m) (λ t. omega (arith, f, run_at ticks i m s.0 t (omega (arith, long, s.1))))

cmp_le : (x y : ℕ) → is_le (nat_cmp x y) ≡ leb x y
cmp_le x y = search rules

-- the same, where each cell is tested against the next by a closure that answers `leb`
pub run_sorted_by : (ticks : List ℕ) (i m : ℕ) (r : Bool) → i + m < length ticks
    → IsAllAdjacentAnswer (λ x y b. b ≡ leb x y) (run_of ticks i m) r → r ≡ never_falls ticks i m
run_sorted_by ticks i m true h e = run_sorted ticks i m true h (λ k d l. cmp_le _ _ ∙ sym (e k d l))
run_sorted_by ticks i m false h e = run_sorted ticks i m false h (e.0, e.1, λ d. cmp_le _ _ ∙ sym (e.2 d))
