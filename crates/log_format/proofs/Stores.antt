-- Runs of stores: how the encoder's stores, one after another, make up the bytes of its definitions.
use mathlib.Core.Path.{◌≡◌, refl, sym, ap, ◌∙◌}
use mathlib.Core.List.{List, [], ◌∷◌, ◌++◌}
use Prim.Native.Nat.{ℕ, zero, suc, ◌+◌, ◌-◌, ◌*◌, ◌≤◌, ◌<◌}
use native.Mathlib.Omega.{arith}
use native.Mathlib.Numerals.{add-one}
use native.Mathlib.Nat.{add-zero}
use lib.ListN.{length, get_or, set, replicate}
use lib.Seq.{sets}
use Rattle.log_format.specs.declared.Entry.{Entry}
use Rattle.log_format.specs.Bytes.{bytes_of}
use Rattle.log_format.specs.Encode.{record_bytes, headed, numbers_bytes}

pub length_bytes : (n x : ℕ) → length (bytes_of n x) ≡ n
unfolding bytes_of
length_bytes zero x = refl
length_bytes (suc n) x = ap suc (length_bytes n _)

-- one run of stores after another
pub sets_append : (l a b : List ℕ) (i : ℕ) → sets l i (a ++ b) ≡ sets (sets l i a) (i + length a) b
sets_append l [] b i = rw (add-zero i)
sets_append l (x ∷ a) b i =
    let e : suc i + length a ≡ i + suc (length a) = omega arith in
    sets_append (set l i x) a b (suc i) ∙ ap (λ (k : ℕ). sets (sets (set l i x) (suc i) a) k b) e

-- a number, and then the rest at place j
pub sets_number : (l b : List ℕ) (i n x j : ℕ) → i + n ≡ j → sets l i (bytes_of n x ++ b) ≡ sets (sets l i (bytes_of n x)) j b
sets_number l b i n x j e =
    let k : i + length (bytes_of n x) ≡ j = omega (arith, length_bytes n x) in
    sets_append l (bytes_of n x) b i ∙ ap (λ (p : ℕ). sets (sets l i (bytes_of n x)) p b) k

pub head_stores : (s : List ℕ) (number count : ℕ)
    → sets (sets (sets s 0 (bytes_of 4 number)) 4 (bytes_of 1 count)) 5 (bytes_of 3 0) ≡ headed s number count
unfolding headed
head_stores s number count =
    sym (sets_number s (bytes_of 1 count ++ bytes_of 3 0) 0 4 number 4 refl
    ∙ sets_number (sets s 0 (bytes_of 4 number)) (bytes_of 3 0) 4 1 count 5 refl)

pub record_stores : (s : List ℕ) (at : ℕ) (e : Entry)
    → sets (sets (sets (sets (sets (sets (sets (sets s at (bytes_of 8 e.tick)) (at + 8) (bytes_of 8 e.wait)) (at + 16) (bytes_of 2 e.row))
    (at + 18) (bytes_of 1 e.bank)) (at + 19) (bytes_of 1 e.thread)) (at + 20) (bytes_of 1 e.kind)) (at + 21) (bytes_of 1 e.answer)) (at + 22) (bytes_of 2 0)
    ≡ sets s at (record_bytes e)
unfolding record_bytes
record_stores s at e =
    sym (sets_number _ _ at 8 e.tick (at + 8) (omega arith)
    ∙ sets_number _ _ (at + 8) 8 e.wait (at + 16) (omega arith)
    ∙ sets_number _ _ (at + 16) 2 e.row (at + 18) (omega arith)
    ∙ sets_number _ _ (at + 18) 1 e.bank (at + 19) (omega arith)
    ∙ sets_number _ _ (at + 19) 1 e.thread (at + 20) (omega arith)
    ∙ sets_number _ _ (at + 20) 1 e.kind (at + 21) (omega arith)
    ∙ sets_number _ _ (at + 21) 1 e.answer (at + 22) (omega arith))

-- one zero more
pub pad_step : (l : List ℕ) (k n : ℕ) → 0 < n → sets l k (replicate n 0) ≡ sets (set l k 0) (k + 1) (replicate (n - 1) 0)
pad_step l k zero h = absurd (omega arith)
pad_step l k (suc n) h =
    let e : suc n - 1 ≡ n = omega arith in
    rw (add-one k, e)

-- number i of a list, and then the rest
pub numbers_step : (l xs : List ℕ) (k n i m j : ℕ) → 0 < m → k + n ≡ j
    → sets l k (numbers_bytes n xs i m) ≡ sets (sets l k (bytes_of n (get_or xs i 0))) j (numbers_bytes n xs (i + 1) (m - 1))
unfolding numbers_bytes
numbers_step l xs k n i zero j h e = absurd (omega arith)
numbers_step l xs k n i (suc m) j h e =
    let z : suc m - 1 ≡ m = omega arith in
    rw (add-one i, z) (sets_number l (numbers_bytes n xs (suc i) m) k n (get_or xs i 0) j e)

-- The first i of m numbers are stored: storing the others as well gives what storing all of them gives.
abbrev pub Storing : List ℕ → List ℕ → List ℕ → ℕ → ℕ → ℕ → ℕ → Type 0
Storing old new xs at n m i = (i ≤ m) × (sets new (at + n * i) (numbers_bytes n xs i (m - i)) ≡ sets old at (numbers_bytes n xs 0 m))

pub storing_more : (old new next xs : List ℕ) (at n m i : ℕ) → i < m → next ≡ sets new (at + n * i) (bytes_of n (get_or xs i 0))
    → Storing old new xs at n m i → Storing old next xs at n m (i + 1)
storing_more old new next xs at n m i h e v =
    let z : m - (i + 1) ≡ m - i - 1 = omega arith in
    (omega arith, rw (z, e) (sym (numbers_step new xs (at + n * i) n i (m - i) (at + n * (i + 1)) (omega arith) (omega arith)) ∙ v.1))

pub storing_done : (old new xs : List ℕ) (at n m i : ℕ) → m ≤ i → Storing old new xs at n m i → new ≡ sets old at (numbers_bytes n xs 0 m)
unfolding numbers_bytes
storing_done old new xs at n m i h v =
    let z : m - i ≡ 0 = omega arith in
    rw z at v.1
