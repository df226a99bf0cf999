-- Laws of words of four lanes: lane by lane, and of the exclusive or of the lanes.
use mathlib.Core.Path.{◌≡◌, sym, ap, ◌∙◌}
use mathlib.Core.Bool.{Bool, true, false, cond}
use Prim.Native.Nat.{ℕ, ◌+◌, ◌/◌, ◌%◌, ◌^◌, ◌<◌}
use native.Mathlib.Nat.{mod-eq_of_lt, div-div-eq-div-mul}
use native.Mathlib.Omega.{arith}
use lib.Pow.{pow-add}
use lib.Bits.{bit_and, bit_xor, and_mask, and_zero_r, and_shr, and_mod}
use Rattle.hash_rules.specs.Lanes.{joined, lane}
use Rattle.hash_rules.proofs.Xor.{xor_assoc, xor_swap}
use Rattle.hash_rules.proofs.Lanes.{lane_xor, lanes}
use Rattle.hash.specs.Lanes.{folded}

-- and works on each lane apart
lane_and : (a b k : ℕ) → lane (bit_and a b) k ≡ bit_and (lane a k) (lane b k)
unfolding lane
lane_and a b k = ap (λ x. x % 2 ^ 16) (and_shr a b k) ∙ and_mod (a / 2 ^ k) (b / 2 ^ k) 16

-- a lane with all ones or 0
full_lt : (q : Bool) → cond q 65535 0 < 65536
full_lt true = omega arith
full_lt false = omega arith

and_full : (q : Bool) (a : ℕ) → a < 65536 → bit_and a (cond q 65535 0) ≡ cond q a 0
and_full true a h = and_mask a 16 ∙ mod-eq_of_lt h
and_full false a h = and_zero_r a

-- the exclusive or of the lanes of a masked word
pub fold_masked : (a b c d : ℕ) (p q r s : Bool) → a < 65536 → b < 65536 → c < 65536 → d < 65536
    → folded (bit_and (joined a b c d) (joined (cond p 65535 0) (cond q 65535 0) (cond r 65535 0) (cond s 65535 0)))
    ≡ bit_xor (bit_xor (bit_xor (cond p a 0) (cond q b 0)) (cond r c 0)) (cond s d 0)
unfolding folded
fold_masked a b c d p q r s ha hb hc hd =
    let w = joined a b c d in
    let m = joined (cond p 65535 0) (cond q 65535 0) (cond r 65535 0) (cond s 65535 0) in
    let l = lanes a b c d ha hb hc hd in
    let n = lanes (cond p 65535 0) (cond q 65535 0) (cond r 65535 0) (cond s 65535 0) (full_lt p) (full_lt q) (full_lt r) (full_lt s) in
    rw (
      lane_and w m 0,
      lane_and w m 16,
      lane_and w m 32,
      lane_and w m 48,
      l.first,
      l.second,
      l.third,
      l.fourth,
      n.first,
      n.second,
      n.third,
      n.fourth,
      and_full p a ha,
      and_full q b hb,
      and_full r c hc,
      and_full s d hd,
    )

-- the exclusive or of the lanes, for the exclusive or of two words
pub fold_xor : (a b : ℕ) → folded (bit_xor a b) ≡ bit_xor (folded a) (folded b)
unfolding folded
fold_xor a b =
    let la = bit_xor (lane a 0) (lane a 16) in
    let lb = bit_xor (lane b 0) (lane b 16) in
    rw (
      lane_xor a b 0,
      lane_xor a b 16,
      lane_xor a b 32,
      lane_xor a b 48,
      xor_swap (lane a 0) (lane b 0) (lane a 16) (lane b 16),
      xor_swap la lb (lane a 32) (lane b 32),
      xor_swap (bit_xor la (lane a 32)) (bit_xor lb (lane b 32)) (lane a 48) (lane b 48),
    )

-- the lane k bits above another
lane_above : (x j k : ℕ) → lane (x / 2 ^ j) k ≡ lane x (j + k)
unfolding lane
lane_above x j k = ap (λ y. y % 2 ^ 16) (div-div-eq-div-mul x (2 ^ j) (2 ^ k) ∙ ap (λ y. x / y) (sym (pow-add 2 j k)))

-- ten bits of the lowest lane
low_ten : (w : ℕ) → w % 1024 ≡ lane w 0 % 1024
unfolding lane
low_ten w = omega arith

-- the upper two lanes onto the lower two, and of these the upper one onto the lower
pub fold_halves : (x y z : ℕ) → y ≡ bit_xor x (x / 2 ^ 32) → z ≡ bit_xor y (y / 2 ^ 16) → z % 1024 ≡ folded x % 1024
unfolding folded
fold_halves x y z ey ez =
    low_ten z
    ∙ rw (
      ez,
      lane_xor y (y / 2 ^ 16) 0,
      lane_above y 16 0,
      ey,
      lane_xor x (x / 2 ^ 32) 0,
      lane_xor x (x / 2 ^ 32) 16,
      lane_above x 32 0,
      lane_above x 32 16,
      xor_swap (lane x 0) (lane x 32) (lane x 16) (lane x 48),
      xor_assoc (bit_xor (lane x 0) (lane x 16)) (lane x 32) (lane x 48),
    )
