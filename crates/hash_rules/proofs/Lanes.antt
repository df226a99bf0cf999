-- Laws of words of four lanes.
use mathlib.Core.Path.{◌≡◌, ap, ◌∙◌}
use Prim.Native.Nat.{ℕ, ◌/◌, ◌%◌, ◌^◌, ◌<◌}
use native.Mathlib.Omega.{arith}
use lib.Bits.{bit_xor, xor_shr, xor_mod}
use Rattle.hash_rules.specs.Lanes.{joined, lane}

-- exclusive or works on each lane apart
pub lane_xor : (a b k : ℕ) → lane (bit_xor a b) k ≡ bit_xor (lane a k) (lane b k)
unfolding lane
lane_xor a b k = ap (λ x. x % 2 ^ 16) (xor_shr a b k) ∙ xor_mod (a / 2 ^ k) (b / 2 ^ k) 16

-- a word and its four lanes
pub record Lanes (w a b c d : ℕ) : Type 0 where
  pub first : lane w 0 ≡ a
  pub second : lane w 16 ≡ b
  pub third : lane w 32 ≡ c
  pub fourth : lane w 48 ≡ d

-- the lanes of four numbers of 16 bits
pub lanes : (a b c d : ℕ) → a < 65536 → b < 65536 → c < 65536 → d < 65536 → Lanes (joined a b c d) a b c d
unfolding lane
lanes a b c d ha hb hc hd = record { first = omega arith; second = omega arith; third = omega arith; fourth = omega arith }
