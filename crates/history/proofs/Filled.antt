-- The first cells of a list filled with 0: the same as cleared.
use Rattle.std.proofs.Common.{◌≡◌, ℕ, zero, suc, ◌+◌, ◌-◌, ◌<◌, ◌≤◌, List, ◌++◌, length, get_or, replicate, take, drop, cond, ap, ◌∙◌, arith}
use native.Mathlib.Decide.{dec_lt}
use borrow.Rule.Slice.PartMut.{mid_of, put_mid}
use lib.Dec.{ltb}
use borrow.Author.Tests.{lt-ltb, le-ltb}
use Rattle.std.proofs.lemmas.List.{get_or-replicate, get_or-drop, length-drop, length-append, length-replicate, length-take-le}
use Rattle.std.proofs.Math.ListN.{get_or-append}
use Rattle.std.proofs.Math.Seq.{get_or-append_right}
use Rattle.rules.specs.Cells.{clear_cells}
use Rattle.rules.proofs.Cells.{is_map_cells}
use Rattle.rules.proofs.Clearing.{first}

-- n zeros before the rest of the list
zeros_first : (n : ℕ) (old : List ℕ) → n ≤ length old → replicate n 0 ++ drop n old ≡ clear_cells (first n) old
zeros_first n old h =
    is_map_cells (λ i c. cond (ltb i n) 0 c) (replicate n 0 ++ drop n old) old
    (simp (length-append, length-replicate, length-drop) (omega arith))
    (λ j k. cell j k (dec_lt j n))
  where
    long : length (replicate {A = ℕ} n 0) ≡ n
    long = length-replicate n 0

    cell : (j : ℕ) → j < length old → Dec (j < n) → get_or (replicate n 0 ++ drop n old) j 0 ≡ cond (ltb j n) 0 (get_or old j 0)
    cell j k (yes l) =
        rw (lt-ltb j n l) (get_or-append (replicate n 0) (drop n old) 0 j (omega (arith, long)) ∙ get_or-replicate n j 0 0 l)
    cell j k (no l) =
        let z : n + (j - n) ≡ j = omega arith in
        rw (le-ltb j n (omega arith)) (get_or-append_right (replicate n 0) (drop n old) j 0 (omega (arith, long)) ∙ ap (λ m. get_or (drop n old) (j - m) 0) long ∙ get_or-drop n old (j - n) 0 ∙ ap (λ m. get_or old m 0) z)

-- what `fill` leaves of the first n cells, before the rest of the list
pub filled_first : (n : ℕ) (old new : List ℕ) → n ≤ length old → new ≡ replicate (length (take n old)) 0
    → new ++ drop n old ≡ clear_cells (first n) old
filled_first n old new h e =
    let long : length (take n old) ≡ n = length-take-le n old h in
    rw (e, long) (zeros_first n old h)

-- the same of the cells from start on, where that is 0
pub filled_from : (start n : ℕ) (old new : List ℕ) → start ≡ 0 → n ≤ length old → new ≡ replicate (length (mid_of start (n - start) old)) 0
    → put_mid start (n - start) old new ≡ clear_cells (first n) old
filled_from start n old new e = go start e
  where
    go : (start : ℕ) → start ≡ 0 → n ≤ length old → new ≡ replicate (length (mid_of start (n - start) old)) 0
        → put_mid start (n - start) old new ≡ clear_cells (first n) old
    go zero e h is =
        let z : n - 0 ≡ n = omega arith in
        rw z (filled_first n old new h (rw z at is))
    go (suc k) e h is = absurd (omega (arith, e))
