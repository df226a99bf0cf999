-- Words of four lanes, 16 bits each: what the steps of the hash compute. That their result is the rules' hash is a law (`hash_is` of `seeds`).
use Rattle.std.specs.Prelude.{List, cond, ℕ, ◌+◌, get_or}
use Rattle.std.specs.Int.Bits.{bit_and, bit_xor}
use Rattle.rules.specs.Hash.{bit_set}
use Rattle.hash_rules.specs.Lanes.{joined, lane}

-- the four seeds from place i on
abbrev pub four_seeds : List ℕ → ℕ → ℕ
four_seeds seeds i = joined (get_or seeds i 0) (get_or seeds (i + 1) 0) (get_or seeds (i + 2) 0) (get_or seeds (i + 3) 0)

-- x in the lane of each of the four lowest bits that is set, 0 in the other lanes
unfoldable pub spread : ℕ → ℕ → ℕ
spread x bits = joined (cond (bit_set bits 0) x 0) (cond (bit_set bits 1) x 0) (cond (bit_set bits 2) x 0) (cond (bit_set bits 3) x 0)

-- the four seeds from place i on, masked by the four lowest bits
unfoldable pub chosen : List ℕ → ℕ → ℕ → ℕ
chosen seeds i bits = bit_and (four_seeds seeds i) (spread 65535 bits)

-- the exclusive or of a word's four lanes
unfoldable pub folded : ℕ → ℕ
folded w = bit_xor (bit_xor (bit_xor (lane w 0) (lane w 16)) (lane w 32)) (lane w 48)
