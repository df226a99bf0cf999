-- The four lowest bits spread over the lanes of a word, and the mask that they give.
use mathlib.Core.Path.{◌≡◌, refl, ◌∙◌}
use mathlib.Core.Bool.{Bool, true, false, cond}
use Prim.Native.Nat.{ℕ, ◌*◌, ◌/◌, ◌%◌, ◌^◌, ◌≤◌}
use native.Mathlib.Omega.{arith}
use lib.Dec.{T, eqb, eqb→eq}
use lib.Bits.{bit_and}
use Rattle.rules.specs.Cells.{every}
use Rattle.rules.specs.Hash.{bit_set}
use Rattle.rules.proofs.Tests.{every_at}
use Rattle.hash.specs.Lanes.{spread}

-- the product spreads these bits; the sixteen cases are computed
right : ℕ → Bool
right bits = eqb (bit_and (bits * 35185445863425) 281479271743489) (spread 1 bits)

right_all : T (every 16 right)
unfolding right spread
right_all = tt

-- only the four lowest bits count
low_bits : (n : ℕ) → (n % 16 / 2 ^ 0 % 2 ≡ n / 2 ^ 0 % 2) × (n % 16 / 2 ^ 1 % 2 ≡ n / 2 ^ 1 % 2) × (n % 16 / 2 ^ 2 % 2 ≡ n / 2 ^ 2 % 2) × (n % 16 / 2 ^ 3 % 2 ≡ n / 2 ^ 3 % 2)
low_bits n = (omega arith, omega arith, omega arith, omega arith)

spread_low : (x bits : ℕ) → spread x (bits % 16) ≡ spread x bits
unfolding spread
spread_low x bits = let b = low_bits bits in rw (b.0, b.1, b.2, b.3)

pub spread_is : (bits : ℕ) → bit_and (bits % 16 * 35185445863425) 281479271743489 ≡ spread 1 bits
unfolding right
spread_is bits = eqb→eq _ (spread 1 (bits % 16)) (every_at 16 right right_all (bits % 16) (omega arith)) ∙ spread_low 1 bits

-- a lane of one bit, and the lane that it fills
one_lane : (q : Bool) → (cond q 65535 0 ≡ 65535 * cond q 1 0) × (cond q 1 0 ≤ 1)
one_lane true = (refl, omega arith)
one_lane false = (refl, omega arith)

-- a 1 in a lane, times 65,535, fills the lane; and the word has room for four
pub filled : (w bits : ℕ) → w ≡ spread 1 bits → (w * 65535 ≡ spread 65535 bits) × (w ≤ 281479271743489)
unfolding spread
filled w bits e =
    let a = one_lane (bit_set bits 0) in
    let b = one_lane (bit_set bits 1) in
    let c = one_lane (bit_set bits 2) in
    let d = one_lane (bit_set bits 3) in
    (omega arith, omega arith)
