-- What is stored is read back: numbers, and the parts of a block that a store leaves.
use mathlib.Core.Path.{◌≡◌, refl, ◌∙◌}
use mathlib.Core.List.{List, [], ◌∷◌}
use mathlib.Core.Bool.{true}
use Prim.Native.Nat.{ℕ, zero, suc, ◌+◌, ◌*◌, ◌/◌, ◌%◌, ◌^◌, ◌≤◌, ◌<◌}
use native.Mathlib.Omega.{arith}
use native.Mathlib.Nat.{add-zero}
use lib.Dec.{eqb}
use lib.ListN.{length, get_or, set, length-set, length-append}
use lib.Seq.{sets, length-sets, get_or-set_same, get_or-set_other}
use borrow.Author.Tests.{eq-eqb}
use Rattle.rules.specs.Cells.{every}
use Rattle.rules.proofs.Tests.{every_all, holds, is_true}
use Rattle.log_format.specs.Bytes.{little, bytes_of, zeros}
use Rattle.log_format.specs.Blocks.{sum_to, weighted_to}
use Rattle.log_format.specs.Encode.{numbers_bytes}
use Rattle.log_format.proofs.Stores.{length_bytes, sets_number}

-- ---- cells of a run of stores

-- two lists have the same cells from lo up to hi
abbrev pub Same : List ℕ → List ℕ → ℕ → ℕ → Type 0
Same s t lo hi = (k : ℕ) → lo ≤ k → k < hi → get_or s k 0 ≡ get_or t k 0

pub same_trans : (s t u : List ℕ) (lo hi : ℕ) → Same s t lo hi → Same t u lo hi → Same s u lo hi
same_trans s t u lo hi p q k a b = p k a b ∙ q k a b

pub same_part : (s t : List ℕ) (lo hi lo' hi' : ℕ) → lo ≤ lo' → hi' ≤ hi → Same s t lo hi → Same s t lo' hi'
same_part s t lo hi lo' hi' a b p k x y = p k (omega arith) (omega arith)

-- below the stores
pub sets_below : (l vs : List ℕ) (i k : ℕ) → k < i → get_or (sets l i vs) k 0 ≡ get_or l k 0
sets_below l [] i k h = refl
sets_below l (v ∷ vs) i k h = sets_below (set l i v) vs (suc i) k (omega arith) ∙ get_or-set_other l i k v 0 (λ z. omega arith)

-- above them
pub sets_above : (l vs : List ℕ) (i k : ℕ) → i + length vs ≤ k → get_or (sets l i vs) k 0 ≡ get_or l k 0
sets_above l [] i k h = refl
sets_above l (v ∷ vs) i k h = sets_above (set l i v) vs (suc i) k (omega arith) ∙ get_or-set_other l i k v 0 (λ z. omega arith)

-- among them
pub sets_at : (l vs : List ℕ) (i j : ℕ) → i + length vs ≤ length l → j < length vs → get_or (sets l i vs) (i + j) 0 ≡ get_or vs j 0
sets_at l [] i j h k = absurd (omega arith)
sets_at l (v ∷ vs) i zero h k =
    rw (add-zero i) (sets_below (set l i v) vs (suc i) i (omega arith) ∙ get_or-set_same l i v 0 (omega arith))
sets_at l (v ∷ vs) i (suc j) h k =
    let e : i + suc j ≡ suc i + j = omega arith in
    let n : suc i + length vs ≤ length (set l i v) = omega (arith, length-set l i v) in
    rw e (sets_at (set l i v) vs (suc i) j n (omega arith))

-- ---- numbers

pub little_same : (s t : List ℕ) (k n lo hi : ℕ) → Same s t lo hi → lo ≤ k → k + n ≤ hi → little s k n ≡ little t k n
unfolding little
little_same s t k zero lo hi p a b = refl
little_same s t k (suc n) lo hi p a b = rw (p k a (omega arith), little_same s t (suc k) n lo hi p (omega arith) (omega arith))

pub little_one : (s : List ℕ) (k : ℕ) → little s k 1 ≡ get_or s k 0
unfolding little
little_one s k = omega arith

-- a number read from the cells of another list
pub little_moved : (s t : List ℕ) (k p n : ℕ) → ((j : ℕ) → j < n → get_or s (k + j) 0 ≡ get_or t (p + j) 0) → little s k n ≡ little t p n
unfolding little
little_moved s t k p zero h = refl
little_moved s t k p (suc n) h =
    let first : get_or s k 0 ≡ get_or t p 0 = rw (add-zero k, add-zero p) at (h 0 (omega arith)) in
    rw (first, little_moved s t (suc k) (suc p) n (λ j b. step j b))
  where
    step : (j : ℕ) → j < n → get_or s (suc k + j) 0 ≡ get_or t (suc p + j) 0
    step j b =
        let e1 : suc k + j ≡ k + suc j = omega arith in
        let e2 : suc p + j ≡ p + suc j = omega arith in
        rw (e1, e2) (h (suc j) (omega arith))

little_tail : (x : ℕ) (l : List ℕ) (k n : ℕ) → little (x ∷ l) (suc k) n ≡ little l k n
unfolding little
little_tail x l k zero = refl
little_tail x l k (suc n) = rw (little_tail x l (suc k) n)

pub little_bytes : (n x : ℕ) → x < 256 ^ n → little (bytes_of n x) 0 n ≡ x
unfolding little bytes_of
little_bytes zero x h = omega arith
little_bytes (suc n) x h = rw (little_tail (x % 256) (bytes_of n (x / 256)) 0 n, little_bytes n (x / 256) (omega arith)) (omega arith)

-- a number that was stored is read back
pub little_put : (l : List ℕ) (i n x : ℕ) → i + n ≤ length l → x < 256 ^ n → little (sets l i (bytes_of n x)) i n ≡ x
little_put l i n x h b =
    little_moved (sets l i (bytes_of n x)) (bytes_of n x) i 0 n
    (λ j k. sets_at l (bytes_of n x) i j (omega (arith, length_bytes n x)) (omega (arith, length_bytes n x)) ∙ zero_first j)
    ∙ little_bytes n x b
  where
    zero_first : (j : ℕ) → get_or (bytes_of n x) j 0 ≡ get_or (bytes_of n x) (0 + j) 0
    zero_first j = let e : 0 + j ≡ j = omega arith in rw e

-- ---- sums and zeros

pub sum_same : (s t : List ℕ) (n : ℕ) → Same s t 0 n → sum_to s n ≡ sum_to t n
unfolding sum_to
sum_same s t zero p = refl
sum_same s t (suc n) p = rw (sum_same s t n (λ k a b. p k a (omega arith)), p n (omega arith) (omega arith))

pub weighted_same : (s t : List ℕ) (n : ℕ) → Same s t 0 n → weighted_to s n ≡ weighted_to t n
unfolding weighted_to
weighted_same s t zero p = refl
weighted_same s t (suc n) p = rw (weighted_same s t n (λ k a b. p k a (omega arith)), p n (omega arith) (omega arith))

pub zeros_all : (s : List ℕ) (k n : ℕ) → ((j : ℕ) → k ≤ j → j < k + n → get_or s j 0 ≡ 0) → zeros s k n ≡ true
unfolding zeros
zeros_all s k n h =
    is_true (every n (λ i. eqb (get_or s (k + i) 0) 0))
    (every_all n (λ i. eqb (get_or s (k + i) 0) 0) (λ i b. holds (eqb (get_or s (k + i) 0) 0) (eq-eqb (get_or s (k + i) 0) 0 (h (k + i) (omega arith) (omega arith)))))

-- ---- numbers in a row

pub length_numbers : (n : ℕ) (xs : List ℕ) (i m : ℕ) → length (numbers_bytes n xs i m) ≡ n * m
unfolding numbers_bytes
length_numbers n xs i zero = omega arith
length_numbers n xs i (suc m) =
    omega (arith, length-append (bytes_of n (get_or xs i 0)) (numbers_bytes n xs (suc i) m), length_bytes n (get_or xs i 0), length_numbers n xs (suc i) m)

-- a store at a higher place leaves a number
pub little_below : (l vs : List ℕ) (i k n : ℕ) → k + n ≤ i → little (sets l i vs) k n ≡ little l k n
little_below l vs i k n h = little_same (sets l i vs) l k n 0 i (λ j a b. sets_below l vs i j b) (omega arith) h

-- number p of a row that was stored is read back
pub numbers_read : (l xs : List ℕ) (k n i m p : ℕ) → k + n * m ≤ length l → p < m → get_or xs (i + p) 0 < 256 ^ n
    → little (sets l k (numbers_bytes n xs i m)) (k + n * p) n ≡ get_or xs (i + p) 0
unfolding numbers_bytes
numbers_read l xs k n i zero p h a b = absurd (omega arith)
numbers_read l xs k n i (suc m) zero h a b =
    let x = get_or xs i 0 in
    let rest = numbers_bytes n xs (suc i) m in
    let e1 : k + n * 0 ≡ k = omega arith in
    let c : x < 256 ^ n = rw (add-zero i) at b in
    rw (e1, add-zero i, sets_number l rest k n x (k + n) refl)
    (little_below (sets l k (bytes_of n x)) rest (k + n) k n (omega arith) ∙ little_put l k n x (omega arith) c)
numbers_read l xs k n i (suc m) (suc p) h a b =
    let x = get_or xs i 0 in
    let e1 : k + n * suc p ≡ k + n + n * p = omega arith in
    let e2 : i + suc p ≡ suc i + p = omega arith in
    rw (e1, e2, sets_number l (numbers_bytes n xs (suc i) m) k n x (k + n) refl)
    (numbers_read (sets l k (bytes_of n x)) xs (k + n) n (suc i) m p (omega (arith, length-sets l k (bytes_of n x))) (omega arith) (rw e2 at b))
