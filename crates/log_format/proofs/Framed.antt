-- A block that was framed: its number, its count, its zeros and its sums are as the layout wants them, and its body is as it was.
use mathlib.Core.Path.{◌≡◌, refl, sym, ap, ◌∙◌}
use mathlib.Core.List.{List, ◌++◌}
use mathlib.Core.Bool.{true}
use Prim.Native.Nat.{ℕ, zero, suc, ◌+◌, ◌-◌, ◌%◌, ◌^◌, ◌≤◌, ◌<◌}
use native.Mathlib.Omega.{arith}
use lib.ListN.{length, get_or, replicate, length-append, length-replicate, get_or-replicate}
use lib.Seq.{sets, length-sets}
use borrow.Author.Tests.{eq-eqb}
use Rattle.log_format.specs.Bytes.{little, bytes_of, zeros}
use Rattle.log_format.specs.Blocks.{sum_to, weighted_to, checked}
use Rattle.log_format.specs.Encode.{headed, padded, summed, framed}
use Rattle.log_format.proofs.Stores.{length_bytes, sets_number, head_stores}
use Rattle.log_format.proofs.ReadBack.{Same, same_trans, same_part, sets_below, sets_above, sets_at, little_same, little_one, little_below, little_put, sum_same, weighted_same, zeros_all}

-- the bytes of 0
bytes_zero : (n i : ℕ) → get_or (bytes_of n 0) i 0 ≡ 0
unfolding bytes_of
bytes_zero zero i = refl
bytes_zero (suc n) zero = refl
bytes_zero (suc n) (suc i) = bytes_zero n i

-- a block with its two sums
-- (the stores of the definitions are named here, so that the laws on runs of stores can be applied to them)
abbrev sum_bytes : List ℕ → List ℕ
sum_bytes q = bytes_of 2 (sum_to q 508 % 65521) ++ bytes_of 2 (weighted_to q 508 % 65521)

abbrev head_bytes : ℕ → ℕ → List ℕ
head_bytes b n = bytes_of 4 b ++ (bytes_of 1 n ++ bytes_of 3 0)

module _ (q : List ℕ) (len : length q ≡ 512) where
  pub summed_same : Same (summed q) q 0 508
  unfolding summed
  summed_same k a b = sets_below q (sum_bytes q) 508 k b

  pub summed_length : length (summed q) ≡ 512
  unfolding summed
  summed_length = length-sets q 508 (sum_bytes q) ∙ len

  pub summed_checked : checked (summed q) ≡ true
  unfolding checked summed
  summed_checked =
      let p = sum_to q 508 % 65521 in
      let w = weighted_to q 508 % 65521 in
      let stores : summed q ≡ sets (sets q 508 (bytes_of 2 p)) 510 (bytes_of 2 w) = two p w in
      let first : little (summed q) 508 2 ≡ p =
      ap (λ (t : List ℕ). little t 508 2) stores ∙ little_below (sets q 508 (bytes_of 2 p)) (bytes_of 2 w) 510 508 2 (omega arith) ∙ little_put q 508 2 p (omega arith) (omega arith) in
      let second : little (summed q) 510 2 ≡ w =
      ap (λ (t : List ℕ). little t 510 2) stores ∙ little_put (sets q 508 (bytes_of 2 p)) 510 2 w (omega (arith, length-sets q 508 (bytes_of 2 p))) (omega arith) in
      rw (sum_same (summed q) q 508 summed_same, weighted_same (summed q) q 508 summed_same, eq-eqb (little (summed q) 508 2) p first, eq-eqb (little (summed q) 510 2) w second)
    where
      two : (p w : ℕ) → sets q 508 (bytes_of 2 p ++ bytes_of 2 w) ≡ sets (sets q 508 (bytes_of 2 p)) 510 (bytes_of 2 w)
      two p w = sets_number q (bytes_of 2 w) 508 2 p 510 refl

-- a block with its head
module _ (s : List ℕ) (len : length s ≡ 512) (b n : ℕ) (bb : b < 256 ^ 4) (nb : n < 256 ^ 1) where
  pub headed_length : length (headed s b n) ≡ 512
  unfolding headed
  headed_length = length-sets s 0 (head_bytes b n) ∙ len

  pub headed_same : Same (headed s b n) s 8 512
  unfolding headed
  headed_same k lo hi =
      sets_above s (head_bytes b n) 0 k
      (omega (arith, length-append (bytes_of 4 b) (bytes_of 1 n ++ bytes_of 3 0), length-append (bytes_of 1 n) (bytes_of 3 0), length_bytes 4 b, length_bytes 1 n, length_bytes 3 0))

  pub headed_number : little (headed s b n) 0 4 ≡ b
  headed_number =
      rw (← head_stores s b n)
      (little_below (sets (sets s 0 (bytes_of 4 b)) 4 (bytes_of 1 n)) (bytes_of 3 0) 5 0 4 (omega arith)
      ∙ little_below (sets s 0 (bytes_of 4 b)) (bytes_of 1 n) 4 0 4 (omega arith)
      ∙ little_put s 0 4 b (omega arith) bb)

  pub headed_count : get_or (headed s b n) 4 0 ≡ n
  headed_count =
      let l = sets s 0 (bytes_of 4 b) in
      rw (← little_one (headed s b n) 4, ← head_stores s b n)
      (little_below (sets l 4 (bytes_of 1 n)) (bytes_of 3 0) 5 4 1 (omega arith) ∙ little_put l 4 1 n (omega (arith, length-sets s 0 (bytes_of 4 b))) nb)

  pub headed_zeros : (k : ℕ) → 5 ≤ k → k < 8 → get_or (headed s b n) k 0 ≡ 0
  headed_zeros k lo hi =
      let l = sets (sets s 0 (bytes_of 4 b)) 4 (bytes_of 1 n) in
      let e : 5 + (k - 5) ≡ k = omega arith in
      let long : length l ≡ 512 = length-sets (sets s 0 (bytes_of 4 b)) 4 (bytes_of 1 n) ∙ length-sets s 0 (bytes_of 4 b) ∙ len in
      rw (← head_stores s b n)
      (ap (λ (j : ℕ). get_or (sets l 5 (bytes_of 3 0)) j 0) (sym e)
      ∙ sets_at l (bytes_of 3 0) 5 (k - 5) (omega (arith, length_bytes 3 0)) (omega (arith, length_bytes 3 0))
      ∙ bytes_zero 3 (k - 5))

-- a block with zeros after its body
module _ (s : List ℕ) (len : length s ≡ 512) (k : ℕ) (h : k ≤ 508) where
  pub padded_length : length (padded s k) ≡ 512
  unfolding padded
  padded_length = length-sets s k (replicate (508 - k) 0) ∙ len

  pub padded_same : Same (padded s k) s 0 k
  unfolding padded
  padded_same j lo hi = sets_below s (replicate (508 - k) 0) k j hi

  pub padded_zeros : (j : ℕ) → k ≤ j → j < 508 → get_or (padded s k) j 0 ≡ 0
  unfolding padded
  padded_zeros j lo hi =
      let e : k + (j - k) ≡ j = omega arith in
      let n : length (replicate {A = ℕ} (508 - k) 0) ≡ 508 - k = length-replicate (508 - k) 0 in
      ap (λ (i : ℕ). get_or (sets s k (replicate (508 - k) 0)) i 0) (sym e)
      ∙ sets_at s (replicate (508 - k) 0) k (j - k) (omega arith) (omega arith)
      ∙ get_or-replicate (508 - k) (j - k) 0 0 (omega arith)

-- what a framed block is
pub record Frame (s : List ℕ) (b n k : ℕ) (f : List ℕ) : Type 0 where
  pub long : length f ≡ 512
  pub number : little f 0 4 ≡ b
  pub count : get_or f 4 0 ≡ n
  pub zeros_head : zeros f 5 3 ≡ true
  pub body : Same f s 8 k
  pub zeros_after : (j : ℕ) → k ≤ j → j < 508 → get_or f j 0 ≡ 0
  pub check : checked f ≡ true

pub frame_of : (s : List ℕ) (b n k : ℕ) → length s ≡ 512 → b < 256 ^ 4 → n < 256 → 8 ≤ k → k ≤ 508 → Frame s b n k (framed s b n k)
unfolding framed
frame_of s b n k len bb nb lo hi =
    let h = headed s b n in
    let q = padded h k in
    let nb1 : n < 256 ^ 1 = omega arith in
    let hl = headed_length s len b n bb nb1 in
    let ql = padded_length h hl k hi in
    let fq = summed_same q ql in
    let qh = padded_same h hl k hi in
    let fh : Same (summed q) h 0 k = same_trans (summed q) q h 0 k (same_part (summed q) q 0 508 0 k (omega arith) (omega arith) fq) qh in
    record {
      long = summed_length q ql;
      number = little_same (summed q) h 0 4 0 k fh (omega arith) (omega arith) ∙ headed_number s len b n bb nb1;
      count = fh 4 (omega arith) (omega arith) ∙ headed_count s len b n bb nb1;
      zeros_head = zeros_all (summed q) 5 3 (λ j a c. fh j (omega arith) (omega arith) ∙ headed_zeros s len b n bb nb1 j a (omega arith));
      body = λ j a c. fh j (omega arith) c ∙ headed_same s len b n bb nb1 j a (omega arith);
      zeros_after = λ j a c. fq j (omega arith) c ∙ padded_zeros h hl k hi j a c;
      check = summed_checked q ql;
    }
