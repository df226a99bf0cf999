-- Lists of numbers, compared without a branch: the exclusive or of each pair, joined by or.
use mathlib.Core.Path.{◌≡◌, refl, sym, ap, ◌∙◌}
use mathlib.Core.List.{List}
use mathlib.Core.Bool.{Bool, true, ◌&&◌}
use Prim.Native.Nat.{ℕ, zero, suc, ◌+◌, ◌/◌, ◌^◌, ◌<◌, ◌≤◌}
use native.Mathlib.Omega.{arith}
use native.Mathlib.Numerals.{add-one}
use lib.Dec.{eqb, leb, eqb→eq, leb→le, le→leb}
use lib.Bits.{bit_or, bit_xor, and_le_l, and_le_r, or_add_and, or_lt, xor_add_and, xor_self, xor_shr, xor_zero_r}
use lib.ListN.{length, get_or}
use lib.Seq.{ext_get_or, take_all}
use borrow.Author.Tests.{eq-eqb, ne_eqb, eqb-true}
use Rattle.std.proofs.Common.{take}
use Rattle.std.specs.List.{fold, zip}
use Rattle.std.proofs.lemmas.List.Sums.{fold_more}
use Rattle.std.proofs.lemmas.Slice.Zip.{length-zip, get_or-zip}
use Rattle.rules.specs.Cells.{every}
use Rattle.rules.specs.Setting.{seeds_in_range}
use Rattle.rules.specs.Samples.{house}
use Rattle.rules.proofs.Places.{seeds_long, seed_small}
use Rattle.rules.proofs.Tests.{and_i, and_l, and_r, every_at, holds, same_test}
use Rattle.hash_rules.proofs.House.{house_in_range}
use Rattle.setting.specs.Differing.{Differing}

-- or is at least each of the two
or_above : (a b : ℕ) → (a ≤ bit_or a b) × (b ≤ bit_or a b)
or_above a b =
    let sum = or_add_and a b in
    let left = and_le_l a b in
    let right = and_le_r a b in
    (omega arith, omega arith)

xor_none : (x y : ℕ) → bit_xor x y ≡ 0 → x ≡ y
xor_none x y e =
    let sum = xor_add_and x y in
    let left = and_le_l x y in
    let right = and_le_r x y in
    omega arith

-- where one number has ten bits, the other has more exactly where they differ in a higher one
xor_high : (x y : ℕ) → y ≤ 1023 → bit_xor x y / 1024 ≡ x / 1024
xor_high x y small =
    let none : y / 2 ^ 10 ≡ 0 = omega arith in
    xor_shr x y 10 ∙ ap (bit_xor (x / 2 ^ 10)) none ∙ xor_zero_r (x / 2 ^ 10)

-- ---- one pair more

no_other : (differing x y : ℕ) → eqb (bit_or differing (bit_xor x y)) 0 ≡ (eqb differing 0 && eqb x y)
no_other differing x y =
    same_test (eqb (bit_or differing (bit_xor x y)) 0) (eqb differing 0 && eqb x y)
    (λ t.
    let above = or_above differing (bit_xor x y) in
    let none : bit_or differing (bit_xor x y) ≡ 0 = eqb→eq (bit_or differing (bit_xor x y)) 0 t in
    and_i (eqb differing 0) (eqb x y) (holds (eqb differing 0) (eq-eqb differing 0 (omega arith))) (holds (eqb x y) (eq-eqb x y (xor_none x y (omega arith)))))
    (λ t.
    let none : differing ≡ 0 = eqb→eq differing 0 (and_l (eqb differing 0) (eqb x y) t) in
    let same : x ≡ y = eqb→eq x y (and_r (eqb differing 0) (eqb x y) t) in
    holds (eqb (bit_or differing (bit_xor x y)) 0) (eq-eqb (bit_or differing (bit_xor x y)) 0 (rw (none, same) (xor_self y))))

none_high : (differing x y : ℕ) → y ≤ 1023 → leb (bit_or differing (bit_xor x y)) 1023 ≡ (leb differing 1023 && leb x 1023)
none_high differing x y small =
    let high = xor_high x y small in
    same_test (leb (bit_or differing (bit_xor x y)) 1023) (leb differing 1023 && leb x 1023)
    (λ t.
    let above = or_above differing (bit_xor x y) in
    let low : bit_or differing (bit_xor x y) ≤ 1023 = leb→le (bit_or differing (bit_xor x y)) 1023 t in
    and_i (leb differing 1023) (leb x 1023) (le→leb differing 1023 (omega arith)) (le→leb x 1023 (omega arith)))
    (λ t.
    let left : differing ≤ 1023 = leb→le differing 1023 (and_l (leb differing 1023) (leb x 1023) t) in
    let right : x ≤ 1023 = leb→le x 1023 (and_r (leb differing 1023) (leb x 1023) t) in
    let both : bit_or differing (bit_xor x y) < 2 ^ 10 = or_lt 10 differing (bit_xor x y) (omega arith) (omega arith) in
    le→leb (bit_or differing (bit_xor x y)) 1023 (omega arith))

-- ---- all pairs

-- the numbers at place j are the same
abbrev same_at : List ℕ → List ℕ → ℕ → Bool
same_at xs ys j = eqb (get_or xs j 0) (get_or ys j 0)

-- so many seeds are passed: what the bits in which they differ from the house seeds say of them
record Passed (seeds : List ℕ) (i differing : ℕ) : Type 0 where
  none : eqb differing 0 ≡ every i (same_at seeds house)
  low : leb differing 1023 ≡ every i (λ j. leb (get_or seeds j 0) 1023)

passed_none : (seeds : List ℕ) → Passed seeds 0 0
passed_none seeds = record { none = refl; low = refl }

passed_more : (seeds : List ℕ) (i differing : ℕ) → Passed seeds i differing → Passed seeds (i + 1) (bit_or differing (bit_xor (get_or seeds i 0) (get_or house i 0)))
passed_more seeds i differing p =
    record {
      none = rw (add-one i, ← p.none) (no_other differing (get_or seeds i 0) (get_or house i 0));
      low = rw (add-one i, ← p.low) (none_high differing (get_or seeds i 0) (get_or house i 0) (seed_small house house_in_range i));
    }

every_same : (n : ℕ) (xs : List ℕ) → every n (same_at xs xs) ≡ true
every_same zero xs = refl
every_same (suc n) xs = rw (every_same n xs, eq-eqb (get_or xs n 0) (get_or xs n 0) refl)

-- the lists are the same where all pairs are
same_lists : (n : ℕ) (xs ys : List ℕ) → length xs ≡ n → length ys ≡ n → every n (same_at xs ys) ≡ true → xs ≡ ys
same_lists n xs ys ex ey h =
    ext_get_or 0 xs ys (ex ∙ sym ey) (λ i below. eqb→eq (get_or xs i 0) (get_or ys i 0) (every_at n (same_at xs ys) (holds (every n (same_at xs ys)) h) i (omega arith)))

passed_all : (seeds : List ℕ) (differing : ℕ) → length seeds ≡ 64 → Passed seeds 64 differing → Differing differing seeds
unfolding seeds_in_range
passed_all seeds differing long p =
    record {
      ranged = p.low ∙ simp long;
      none = λ z. same_lists 64 seeds house long (seeds_long house house_in_range) (sym p.none ∙ eq-eqb differing 0 z);
      of_house = λ e. eqb-true differing 0 (p.none ∙ rw e (every_same 64 house));
    }

-- the bits of one pair more
abbrev pub with_pair : ℕ → (ℕ × ℕ) → ℕ
with_pair bits pair = bit_or bits (bit_xor pair.0 pair.1)

module _ (seeds : List ℕ) (long : length seeds ≡ 64) where
  pairs : length (zip seeds house) ≡ 64
  pairs = length-zip seeds house ∙ rw (long, seeds_long house house_in_range)

  passed_pairs : (i : ℕ) → i ≤ 64 → Passed seeds i (fold with_pair 0 (take i (zip seeds house)))
  passed_pairs zero h = passed_none seeds
  passed_pairs (suc i) h =
      let inside : i < length (zip seeds house) = omega (arith, pairs) in
      let more = fold_more with_pair 0 (zip seeds house) i (0, 0) inside in
      let pair = get_or-zip seeds house i (0, 0) (omega (arith, long)) (omega (arith, seeds_long house house_in_range)) in
      rw (← add-one i, more, pair) (passed_more seeds i (fold with_pair 0 (take i (zip seeds house))) (passed_pairs i (omega arith)))

  pub differing_pairs : Differing (fold with_pair 0 (zip seeds house)) seeds
  differing_pairs = passed_all seeds _ long (rw (take_all 64 (zip seeds house) (omega (arith, pairs))) at (passed_pairs 64 (omega arith)))

-- other than 64 seeds are out of range, and are not the house seeds
pub other_length : (seeds : List ℕ) → (length seeds ≡ 64 → ⊥) → Differing 65535 seeds
unfolding seeds_in_range
other_length seeds other =
    record {
      ranged = sym (simp (ne_eqb (length seeds) 64 other));
      none = λ z. absurd (omega arith);
      of_house = λ e. absurd (other (ap length e ∙ seeds_long house house_in_range));
    }
