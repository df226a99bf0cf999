-- The table's words, lane by lane.
use mathlib.Core.Path.{◌≡◌, sym, ap₂, ◌∙◌}
use Prim.Native.Nat.{ℕ, zero, suc, ◌*◌, ◌/◌, ◌%◌, ◌<◌}
use native.Mathlib.Omega.{arith}
use lib.Bits.{bit_xor}
use Rattle.rules.specs.Samples.{house}
use Rattle.rules.specs.Hash.{hash}
use Rattle.rules.proofs.Places.{hash_to_lt}
use Rattle.hash_rules.specs.Lanes.{lane}
use Rattle.hash_rules.specs.Words.{four_hashes}
use Rattle.hash_rules.specs.Claims.{WordOfByte, HashByWords, Theorems}
use Rattle.hash_rules.proofs.House.{house_in_range}
use Rattle.hash_rules.proofs.Lanes.{Lanes, lanes}
use Rattle.hash_rules.proofs.Bytes.{hash_of_xor, hash_by_bytes}

hash_small : (f row : ℕ) → hash house f row < 65536
unfolding hash
hash_small f row = omega (arith, hash_to_lt house house_in_range f row 16)

-- function f's lane of a row's four hashes
hash_lane : (f row : ℕ) → f < 4 → lane (four_hashes house row) (16 * f) ≡ hash house f row
unfolding four_hashes
hash_lane f row below = go f below
  where
    l : Lanes (four_hashes house row) (hash house 0 row) (hash house 1 row) (hash house 2 row) (hash house 3 row)
    l = lanes (hash house 0 row) (hash house 1 row) (hash house 2 row) (hash house 3 row) (hash_small 0 row) (hash_small 1 row) (hash_small 2 row) (hash_small 3 row)

    go : (g : ℕ) → g < 4 → lane (four_hashes house row) (16 * g) ≡ hash house g row
    go zero k = l.first
    go (suc zero) k = l.second
    go (suc (suc zero)) k = l.third
    go (suc (suc (suc zero))) k = l.fourth
    go (suc (suc (suc (suc g)))) k = absurd (omega arith)

pub word_of_byte : WordOfByte
word_of_byte f v below = (hash_lane f (v * 256) below, hash_lane f v below)

pub hash_by_words : HashByWords
hash_by_words f row below = hash_by_bytes house f row ∙ ap₂ bit_xor (sym (word_of_byte f (row / 256) below).0) (sym (word_of_byte f (row % 256) below).1)

pub theorems : Theorems
theorems = record { hash_of_xor = hash_of_xor; hash_by_bytes = hash_by_bytes; word_of_byte = word_of_byte; hash_by_words = hash_by_words }
