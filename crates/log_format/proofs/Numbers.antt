-- Little-endian numbers and lists of them: how they are read in halves and stored byte by byte.
use mathlib.Core.Path.{◌≡◌, refl, sym, ap, ◌∙◌}
use mathlib.Core.List.{List}
use Prim.Native.Nat.{ℕ, zero, suc, ◌+◌, ◌-◌, ◌*◌, ◌/◌, ◌%◌, ◌≤◌, ◌<◌}
use native.Mathlib.Omega.{arith}
use native.Mathlib.Numerals.{add-one}
use lib.ListN.{length, get_or, set, take}
use lib.Seq.{sets, take-suc, take-suc-set, take_all}
use Rattle.log_format.specs.Bytes.{little, bytes_of}
use Rattle.log_format.specs.Contents.{halves}
use Rattle.log_format.specs.Blocks.{sum_to, weighted_to}

-- ---- reading

pub little_two : (s : List ℕ) (k a b : ℕ) → a ≡ get_or s k 0 → b ≡ get_or s (k + 1) 0 → a + 256 * b ≡ little s k 2
unfolding little
little_two s k a b ea eb = rw (ea, eb, add-one k) (omega arith)

pub little_four : (s : List ℕ) (k a b : ℕ) → a ≡ little s k 2 → b ≡ little s (k + 2) 2 → a + 65536 * b ≡ little s k 4
unfolding little
little_four s k a b ea eb =
    let e : k + 2 ≡ suc (suc k) = omega arith in
    rw (ea, eb, e) (omega arith)

pub little_eight : (s : List ℕ) (k a b : ℕ) → a ≡ little s k 4 → b ≡ little s (k + 4) 4 → a + 4294967296 * b ≡ little s k 8
unfolding little
little_eight s k a b ea eb =
    let e : k + 4 ≡ suc (suc (suc (suc k))) = omega arith in
    rw (ea, eb, e) (omega arith)

-- ---- numbers of 16 bits in a row

pub length_halves : (s : List ℕ) (k n : ℕ) → length (halves s k n) ≡ n
unfolding halves
length_halves s k zero = refl
length_halves s k (suc n) = ap suc (length_halves s (2 + k) n)

pub get_or_halves : (s : List ℕ) (k n i : ℕ) → i < n → get_or (halves s k n) i 0 ≡ little s (k + 2 * i) 2
unfolding halves
get_or_halves s k zero i h = absurd (omega arith)
get_or_halves s k (suc n) zero h = let e : k + 2 * 0 ≡ k = omega arith in rw e
get_or_halves s k (suc n) (suc i) h =
    let e : 2 + k + 2 * i ≡ k + 2 * suc i = omega arith in
    get_or_halves s (2 + k) n i (omega arith) ∙ ap (λ (x : ℕ). little s x 2) e

-- a list that holds the first i numbers, and one more
pub halves_more : (s l : List ℕ) (k n i v : ℕ) → i < n → n ≡ length l → v ≡ little s (k + 2 * i) 2
    → take i l ≡ take i (halves s k n) → take (i + 1) (set l i v) ≡ take (i + 1) (halves s k n)
halves_more s l k n i v h e ev et =
    let hl : i < length l = omega arith in
    let hh : i < length (halves s k n) = omega (arith, length_halves s k n) in
    rw (add-one i)
    (take-suc-set l i v hl
    ∙ rw (et, ev, ← get_or_halves s k n i h) (sym (take-suc (halves s k n) i 0 hh)))

-- all of them
pub halves_all : (s l : List ℕ) (k n i : ℕ) → n ≤ i → n ≡ length l → take i l ≡ take i (halves s k n) → l ≡ halves s k n
halves_all s l k n i h e et =
    sym (take_all i l (omega arith)) ∙ et ∙ take_all i (halves s k n) (omega (arith, length_halves s k n))

-- ---- storing

-- one byte more
pub put_step : (l : List ℕ) (k n x : ℕ) → 0 < n → sets l k (bytes_of n x) ≡ sets (set l k (x % 256)) (k + 1) (bytes_of (n - 1) (x / 256))
unfolding bytes_of
put_step l k zero x h = absurd (omega arith)
put_step l k (suc n) x h =
    let e : suc n - 1 ≡ n = omega arith in
    rw (add-one k, e)

-- ---- sums

pub sum_more : (s : List ℕ) (n : ℕ) → sum_to s (n + 1) ≡ sum_to s n + get_or s n 0
unfolding sum_to
sum_more s n = rw (add-one n)

pub weighted_more : (s : List ℕ) (n : ℕ) → weighted_to s (n + 1) ≡ weighted_to s n + (n + 1) * get_or s n 0
unfolding weighted_to
weighted_more s n = ap (λ (x : ℕ). weighted_to s x) (add-one n)
