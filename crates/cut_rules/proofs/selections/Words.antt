-- Selections and the numbers they are answered as.
use mathlib.Core.Path.{◌≡◌, refl, sym, ap, ap₂, ◌∙◌}
use mathlib.Core.List.{List, [], ◌∷◌}
use mathlib.Core.Bool.{Bool, true, false}
use Prim.Native.Nat.{ℕ, zero, suc, ◌-◌, ◌*◌, ◌/◌, ◌%◌, ◌^◌, ◌≤◌, ◌<◌}
use native.Mathlib.Omega.{arith}
use native.Mathlib.Decide.{ℕ_discrete}
use native.Mathlib.Nat.{zero-div, pow-suc, pow-succ', div-div-eq-div-mul, div-mul-le_self, mul-le-mul_right}
use lib.Dec.{eqb}
use lib.ListN.{length, replicate}
use lib.Pow.{shl_exact}
use borrow.Author.Tests.{eq-eqb, ne_eqb}
use Rattle.cut_rules.specs.selections.Selections.{stays, without, word, bits}
use Rattle.cut_rules.specs.selections.Claims.{WordBit, WordBelow, WordAlone, WordSome}

-- ---- one bit of a number

-- the number of bit i, as code makes it
pub bit_is : (i : ℕ) → i < 64 → 1 * 2 ^ i % 2 ^ 64 ≡ 2 ^ i
bit_is i h = shl_exact {a = 1} 1 i 64 (omega arith) (omega arith) ∙ omega arith

-- a number with bit i is at least that
pub bit_le : (i m : ℕ) → (m / 2 ^ i % 2 ≡ 0 → ⊥) → 2 ^ i ≤ m
bit_le i m h =
    let q : 1 ≤ m / 2 ^ i = omega arith in
    omega (arith, mul-le-mul_right (2 ^ i) q, div-mul-le_self m (2 ^ i))

-- the bits above the lowest are the half's
half_bit : (m i : ℕ) → m / 2 ^ suc i ≡ m / 2 / 2 ^ i
half_bit m i = ap (λ d. m / d) (pow-succ' 2 i) ∙ sym (div-div-eq-div-mul m 2 (2 ^ i))

one_le_pow : (n : ℕ) → 1 ≤ 2 ^ n
one_le_pow zero = omega arith
one_le_pow (suc n) = let ih = one_le_pow n in omega (arith, pow-suc 2 n)

-- ---- the selection of a number

pub bits_length : (n m : ℕ) → length (bits n m) ≡ n
bits_length zero m = refl
bits_length (suc n) m = ap suc (bits_length n (m / 2))

pub bits_stays : (n m i : ℕ) → i < n → stays (bits n m) i ≡ eqb (m / 2 ^ i % 2) 1
bits_stays zero m i h = absurd (omega arith)
bits_stays (suc n) m zero h = let e : m % 2 ≡ m / 2 ^ 0 % 2 = omega arith in ap (λ b. eqb b 1) e
bits_stays (suc n) m (suc i) h = bits_stays n (m / 2) i (omega arith) ∙ ap (λ x. eqb (x % 2) 1) (sym (half_bit m i))

-- leaving record i out takes its bit away
pub bits_less : (n m i : ℕ) → i < n → m / 2 ^ i % 2 ≡ 1 → bits n (m - 2 ^ i) ≡ without (bits n m) i
bits_less zero m i h e = absurd (omega arith)
bits_less (suc n) m zero h e =
    let o : m % 2 ≡ 1 = omega arith in
    let low : (m - 2 ^ 0) % 2 ≡ 0 = omega arith in
    let half : (m - 2 ^ 0) / 2 ≡ m / 2 = omega arith in
    ap₂ (λ b k. eqb b 1 ∷ bits n k) low half
bits_less (suc n) m (suc i) h e =
    let le : 2 ^ suc i ≤ m = bit_le (suc i) m (λ z. omega arith) in
    let two = pow-suc 2 i in
    let low : (m - 2 ^ suc i) % 2 ≡ m % 2 = omega arith in
    let half : (m - 2 ^ suc i) / 2 ≡ m / 2 - 2 ^ i = omega arith in
    ap₂ (λ b k. eqb b 1 ∷ bits n k) low half
    ∙ ap (λ l. eqb (m % 2) 1 ∷ l) (bits_less n (m / 2) i (omega arith) (ap (λ x. x % 2) (sym (half_bit m i)) ∙ e))

-- all n records
pub bits_all : (n : ℕ) → bits n (2 ^ n - 1) ≡ replicate n true
bits_all zero = refl
bits_all (suc n) =
    let two = pow-suc 2 n in
    let some = one_le_pow n in
    let low : (2 ^ suc n - 1) % 2 ≡ 1 = omega arith in
    let half : (2 ^ suc n - 1) / 2 ≡ 2 ^ n - 1 = omega arith in
    ap₂ (λ b k. eqb b 1 ∷ bits n k) low half ∙ ap (λ l. true ∷ l) (bits_all n)

-- ---- the number of a selection

pub word_bits : (n m : ℕ) → m < 2 ^ n → word (bits n m) ≡ m
word_bits zero m h = omega arith
word_bits (suc n) m h = go (ℕ_discrete (m % 2) 1) (word_bits n (m / 2) (omega (arith, pow-suc 2 n)))
  where
    go : Dec (m % 2 ≡ 1) → word (bits n (m / 2)) ≡ m / 2 → word (eqb (m % 2) 1 ∷ bits n (m / 2)) ≡ m
    go (yes e) ih = rw (eq-eqb (m % 2) 1 e) (omega arith)
    go (no e) ih = rw (ne_eqb (m % 2) 1 e) (omega arith)

-- numbers below 2^n of one selection are one
pub same_bits : (n m k : ℕ) → m < 2 ^ n → k < 2 ^ n → bits n m ≡ bits n k → m ≡ k
same_bits n m k a b e = sym (word_bits n m a) ∙ ap word e ∙ word_bits n k b

pub bits_word : (sel : List Bool) → bits (length sel) (word sel) ≡ sel
bits_word [] = refl
bits_word (true ∷ sel) =
    let low : suc (2 * word sel) % 2 ≡ 1 = omega arith in
    let half : suc (2 * word sel) / 2 ≡ word sel = omega arith in
    ap₂ (λ b m. eqb b 1 ∷ bits (length sel) m) low half ∙ ap (λ l. true ∷ l) (bits_word sel)
bits_word (false ∷ sel) =
    let low : 2 * word sel % 2 ≡ 0 = omega arith in
    let half : 2 * word sel / 2 ≡ word sel = omega arith in
    ap₂ (λ b m. eqb b 1 ∷ bits (length sel) m) low half ∙ ap (λ l. false ∷ l) (bits_word sel)

-- ---- the claims

pub word_below : WordBelow
word_below [] = omega arith
word_below (true ∷ sel) = let ih = word_below sel in omega (arith, pow-suc 2 (length sel))
word_below (false ∷ sel) = let ih = word_below sel in omega (arith, pow-suc 2 (length sel))

pub word_bit : WordBit
word_bit [] i = ap (λ x. eqb (x % 2) 1) (zero-div (2 ^ i))
word_bit (true ∷ sel) zero = let e : suc (2 * word sel) / 2 ^ 0 % 2 ≡ 1 = omega arith in ap (λ b. eqb b 1) e
word_bit (false ∷ sel) zero = let e : 2 * word sel / 2 ^ 0 % 2 ≡ 0 = omega arith in ap (λ b. eqb b 1) e
word_bit (true ∷ sel) (suc i) =
    let half : suc (2 * word sel) / 2 ≡ word sel = omega arith in
    ap (λ x. eqb (x % 2) 1) (half_bit (suc (2 * word sel)) i ∙ ap (λ x. x / 2 ^ i) half) ∙ word_bit sel i
word_bit (false ∷ sel) (suc i) =
    let half : 2 * word sel / 2 ≡ word sel = omega arith in
    ap (λ x. eqb (x % 2) 1) (half_bit (2 * word sel) i ∙ ap (λ x. x / 2 ^ i) half) ∙ word_bit sel i

pub word_alone : WordAlone
word_alone a b l w = sym (bits_word a) ∙ ap₂ bits l w ∙ bits_word b

pub word_some : WordSome
word_some [] h = absurd (omega arith)
word_some (true ∷ sel) h = omega arith
word_some (false ∷ sel) h = let ih = word_some sel h in omega arith
