-- Differences of natural numbers as integers: when they are equal, their size and their order; and the offsets by their numbers.
use mathlib.Core.Path.{◌≡◌, refl, sym, ap, ap₂, subst, ◌∙◌}
use Prim.Native.Nat.{ℕ, zero, suc, ◌+◌, ◌-◌, ◌≤◌, ◌<◌}
use native.Mathlib.Omega.{arith}
use native.Mathlib.Decide.{dec_lt}
use lib.Dec.{T, leb, leb→le, le→leb}
use lib.IntN.{ℤ, pos, negsuc, neg_ℤ, sub_ℕ, nat_abs, ◌+ℤ◌, ◌-ℤ◌}
use lib.Signed.{le_z}
use mir.Syntax.{w64}
use mir.Val.{SFits, of_z, to_z}
use mir.Facts.{to_z-of_z}
use borrow.Author.Tests.{lt-ltb, le-ltb}
use Rattle.probe_rules.specs.Probes.{offset}

-- ---- a difference by cases

sub_below : (a b : ℕ) → a < b → sub_ℕ a b ≡ negsuc (b - suc a)
sub_below a b h = rw (lt-ltb a b h) refl

sub_from : (a b : ℕ) → b ≤ a → sub_ℕ a b ≡ pos (a - b)
sub_from a b h = rw (le-ltb a b h) refl

-- a number and the one after it, below 0, as differences
pos_sub : (n : ℕ) → pos n ≡ sub_ℕ n 0
pos_sub n = let e : n ≡ n - 0 = omega arith in ap pos e ∙ sym (sub_from n 0 (omega arith))

neg_sub : (n : ℕ) → negsuc n ≡ sub_ℕ 0 (suc n)
neg_sub n = let e : n ≡ suc n - 1 = omega arith in ap negsuc e ∙ sym (sub_below 0 (suc n) (omega arith))

-- a − b = c − d where a + d = c + b
sub_same : (a b c d : ℕ) → a + d ≡ c + b → sub_ℕ a b ≡ sub_ℕ c d
sub_same a b c d h = go (dec_lt a b)
  where
    go : Dec (a < b) → sub_ℕ a b ≡ sub_ℕ c d
    go (yes k) =
        let e : b - suc a ≡ d - suc c = omega arith in
        sub_below a b k ∙ ap negsuc e ∙ sym (sub_below c d (omega arith))
    go (no k) =
        let e : a - b ≡ c - d = omega arith in
        sub_from a b (omega arith) ∙ ap pos e ∙ sym (sub_from c d (omega arith))

-- −(a − b) = b − a
neg_of : (a b : ℕ) → neg_ℤ (sub_ℕ a b) ≡ sub_ℕ b a
neg_of a b = go (dec_lt a b)
  where
    more : (n : ℕ) → a - b ≡ n → b ≤ a → neg_ℤ (pos n) ≡ sub_ℕ b a
    more zero e h = pos_sub 0 ∙ sub_same 0 0 b a (omega arith)
    more (suc n) e h = neg_sub n ∙ sub_same 0 (suc n) b a (omega arith)

    go : Dec (a < b) → neg_ℤ (sub_ℕ a b) ≡ sub_ℕ b a
    go (yes k) = ap neg_ℤ (sub_below a b k) ∙ pos_sub (suc (b - suc a)) ∙ sub_same (suc (b - suc a)) 0 b a (omega arith)
    go (no k) = ap neg_ℤ (sub_from a b (omega arith)) ∙ more (a - b) refl (omega arith)

-- (a − b) + (c − d) = (a + c) − (b + d)
add_of : (a b c d : ℕ) → sub_ℕ a b +ℤ sub_ℕ c d ≡ sub_ℕ (a + c) (b + d)
add_of a b c d = go (dec_lt a b) (dec_lt c d)
  where
    go : Dec (a < b) → Dec (c < d) → sub_ℕ a b +ℤ sub_ℕ c d ≡ sub_ℕ (a + c) (b + d)
    go (yes h) (yes k) =
        ap₂ ◌+ℤ◌ (sub_below a b h) (sub_below c d k)
        ∙ neg_sub (suc (b - suc a + (d - suc c)))
        ∙ sub_same 0 (suc (suc (b - suc a + (d - suc c)))) (a + c) (b + d) (omega arith)
    go (yes h) (no k) =
        ap₂ ◌+ℤ◌ (sub_below a b h) (sub_from c d (omega arith))
        ∙ sub_same (c - d) (suc (b - suc a)) (a + c) (b + d) (omega arith)
    go (no h) (yes k) =
        ap₂ ◌+ℤ◌ (sub_from a b (omega arith)) (sub_below c d k)
        ∙ sub_same (a - b) (suc (d - suc c)) (a + c) (b + d) (omega arith)
    go (no h) (no k) =
        ap₂ ◌+ℤ◌ (sub_from a b (omega arith)) (sub_from c d (omega arith))
        ∙ pos_sub (a - b + (c - d))
        ∙ sub_same (a - b + (c - d)) 0 (a + c) (b + d) (omega arith)

-- (a − b) − (c − d) = (a + d) − (b + c)
difference : (a b c d : ℕ) → sub_ℕ a b -ℤ sub_ℕ c d ≡ sub_ℕ (a + d) (b + c)
difference a b c d = ap (λ z. sub_ℕ a b +ℤ z) (neg_of c d) ∙ add_of a b d c

-- |a − b|
size : (a b : ℕ) → nat_abs (sub_ℕ a b) ≡ a - b + (b - a)
size a b = go (dec_lt a b)
  where
    go : Dec (a < b) → nat_abs (sub_ℕ a b) ≡ a - b + (b - a)
    go (yes k) = ap nat_abs (sub_below a b k) ∙ omega arith
    go (no k) = ap nat_abs (sub_from a b (omega arith)) ∙ omega arith

-- ---- within j of the offset with number e, without a sign

pub near_bounds : (j e a b : ℕ) → T (leb (nat_abs (sub_ℕ b a -ℤ offset e)) j) → (a + e ≤ b + 1000 + j) × (b + 1000 ≤ a + e + j)
near_bounds j e a b t =
    let s = ap nat_abs (difference b a e 1000) ∙ size (b + 1000) (a + e) in
    let h = leb→le (b + 1000 - (a + e) + (a + e - (b + 1000))) j (subst (λ n. T (leb n j)) s t) in
    (omega arith, omega arith)

pub bounds_near : (j e a b : ℕ) → a + e ≤ b + 1000 + j → b + 1000 ≤ a + e + j → T (leb (nat_abs (sub_ℕ b a -ℤ offset e)) j)
bounds_near j e a b h k =
    let s = ap nat_abs (difference b a e 1000) ∙ size (b + 1000) (a + e) in
    subst (λ n. T (leb n j)) (sym s) (le→leb (b + 1000 - (a + e) + (a + e - (b + 1000))) j (omega arith))

-- ---- offsets and their numbers

abbrev pub number_of : ℤ → ℕ
number_of (pos n) = n + 1000
number_of (negsuc n) = 999 - n

pub offset_of : (d : ℤ) → nat_abs d ≤ 1000 → offset (number_of d) ≡ d
offset_of (pos n) h = sub_same (n + 1000) 1000 n 0 (omega arith) ∙ sym (pos_sub n)
offset_of (negsuc n) h = sub_same (999 - n) 1000 0 (suc n) (omega arith) ∙ sym (neg_sub n)

pub number_most : (d : ℤ) → nat_abs d ≤ 1000 → number_of d ≤ 2000
number_most (pos n) h = omega arith
number_most (negsuc n) h = omega arith

pub offset_within : (e : ℕ) → e ≤ 2000 → nat_abs (offset e) ≤ 1000
offset_within e h = subst (λ n. n ≤ 1000) (sym (size e 1000)) (omega arith)

-- they are in the order of their numbers
pub in_order : (e f : ℕ) → e ≤ f → T (le_z (offset e) (offset f))
in_order e f h = go (dec_lt e 1000) (dec_lt f 1000)
  where
    go : Dec (e < 1000) → Dec (f < 1000) → T (le_z (offset e) (offset f))
    go (yes a) (yes b) = rw (sub_below e 1000 a, sub_below f 1000 b) (le→leb (1000 - suc f) (1000 - suc e) (omega arith))
    go (yes a) (no b) = let k : 1000 ≤ f = omega arith in rw (sub_below e 1000 a, sub_from f 1000 k) tt
    go (no a) (yes b) = absurd (omega arith)
    go (no a) (no b) =
        let k : 1000 ≤ e = omega arith in
        let l : 1000 ≤ f = omega arith in
        rw (sub_from e 1000 k, sub_from f 1000 l) (le→leb (e - 1000) (f - 1000) (omega arith))

pub order_of : (e f : ℕ) → T (le_z (offset e) (offset f)) → e ≤ f
order_of e f t = go (dec_lt e 1000) (dec_lt f 1000)
  where
    go : Dec (e < 1000) → Dec (f < 1000) → e ≤ f
    go (yes a) (yes b) =
        let h = leb→le (1000 - suc f) (1000 - suc e) (rw (sub_below e 1000 a, sub_below f 1000 b) at t) in omega arith
    go (yes a) (no b) = omega arith
    go (no a) (yes b) = let k : 1000 ≤ e = omega arith in absurd (rw (sub_from e 1000 k, sub_below f 1000 b) at t)
    go (no a) (no b) =
        let k : 1000 ≤ e = omega arith in
        let l : 1000 ≤ f = omega arith in
        let h = leb→le (e - 1000) (f - 1000) (rw (sub_from e 1000 k, sub_from f 1000 l) at t) in omega arith

-- a word that was written as two's complement is read as what it was
pub read_back : (e : ℕ) → e ≤ 2000 → to_z w64 (of_z w64 (offset e)) ≡ offset e
read_back e h = to_z-of_z {w = w64} {z = offset e} (go (dec_lt e 1000))
  where
    go : Dec (e < 1000) → SFits w64 (offset e)
    go (yes a) = rw (sub_below e 1000 a) (record { sfits = omega arith })
    go (no a) = let k : 1000 ≤ e = omega arith in rw (sub_from e 1000 k) (record { sfits = omega arith })

-- the word of an offset, by its number
pub word_below : (e : ℕ) → e < 1000 → 18446744073709550616 + e ≡ of_z w64 (offset e)
word_below e h = let k : 18446744073709550616 + e ≡ of_z w64 (negsuc (1000 - suc e)) = omega arith in k ∙ ap (of_z w64) (sym (sub_below e 1000 h))

pub word_from : (e : ℕ) → 1000 ≤ e → e - 1000 ≡ of_z w64 (offset e)
word_from e h = ap (of_z w64) (sym (sub_from e 1000 h))
