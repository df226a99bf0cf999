-- The digits that the toolchain's `io::decimal` gives are those of the definition.
use Prim.Native.Nat.{ℕ, zero, suc, ◌+◌, ◌-◌, ◌/◌, ◌%◌, ◌^◌, ◌≤◌, ◌<◌}
use mathlib.Core.Path.{◌≡◌, sym, ap, ap₂, subst}
use mathlib.Core.List.{List, [], ◌∷◌, ◌++◌}
use native.Mathlib.Omega.{arith}
use native.Mathlib.Nat.{not-suc-le-zero, le_of_suc-le-suc, pow-suc, mod-lt}
use borrow.Author.Tests.{lt-ltb, le-ltb}
use Rattle.io.specs.Digits.{hex_digit_ascii, last_digits, IsDigitCount}
use Rattle.report.specs.Lines.{decimal_from}

glyph_low : (d : ℕ) → d < 10 → hex_digit_ascii d ≡ 48 + d
glyph_low d h = rw (lt-ltb d 10 h)

suc_one : (k : ℕ) → suc (suc k) - 1 ≡ suc k
suc_one k = omega arith

suc_none : (k : ℕ) → suc k - 1 ≡ k
suc_none k = omega arith

positive : (k : ℕ) → 1 ≤ 10 ^ k
positive zero = omega arith
positive (suc k) = let e = pow-suc 10 k in let h = positive k in omega arith

-- the fewest digits are the decimal
pub digits_are : (k m n : ℕ) → IsDigitCount 10 1 n k → k ≤ m → last_digits 10 k n ≡ decimal_from m n
unfolding decimal_from
digits_are zero m n f h = absurd (not-suc-le-zero f.0)
digits_are (suc k) zero n f h = absurd (not-suc-le-zero h)
digits_are (suc zero) (suc m) n f h =
    let p : n < 10 = f.1 in
    let e : n % 10 ≡ n = omega arith in
    rw (lt-ltb n 10 p, e) (ap (λ (x : ℕ). x ∷ []) (glyph_low n p))
digits_are (suc (suc k)) (suc m) n f h =
    let e = pow-suc 10 k in
    let e' = pow-suc 10 (suc k) in
    let g : 10 ^ suc k ≤ n = subst (λ (x : ℕ). 10 ^ x ≤ n) (suc_one k) (f.2 (omega arith)) in
    let one : 1 ≤ 10 ^ k = positive k in
    let p : 10 ≤ n = omega arith in
    let q : n < 10 ^ suc (suc k) = f.1 in
    let r : n / 10 < 10 ^ suc k = omega arith in
    rw (le-ltb n 10 p)
    (ap₂ (λ (x : List ℕ) (y : ℕ). x ++ (y ∷ []))
    (digits_are (suc k) m (n / 10) (omega arith, r, λ z. subst (λ (x : ℕ). 10 ^ x ≤ n / 10) (sym (suc_none k)) (omega arith)) (le_of_suc-le-suc h))
    (glyph_low (n % 10) (mod-lt n (omega arith))))

more_digits : (d : ℕ) → 10 ^ 20 ≤ 10 ^ (20 + d)
more_digits zero = omega arith
more_digits (suc d) =
    let e : 20 + suc d ≡ suc (20 + d) = omega arith in
    let h = more_digits d in
    rw (e, pow-suc 10 (20 + d)) (omega arith)

-- a number of 64 bits has at most 20 digits
pub at_most_20 : (n k : ℕ) → IsDigitCount 10 1 n k → n < 2 ^ 64 → k ≤ 20
at_most_20 n k f h = unless (λ (m : 20 < k).
    let e : k - 1 ≡ 20 + (k - 21) = omega arith in
    let g = f.2 (omega arith) in
    let g' = rw e at g in
    let t = more_digits (k - 21) in
    omega arith)
  where
    unless : (20 < k → ⊥) → k ≤ 20
    unless z = omega arith
