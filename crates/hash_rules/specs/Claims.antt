-- What is proved of the hash of any seeds, and of the table's words.
use Rattle.std.specs.Prelude.{◌≡◌, List, ℕ, ◌*◌, ◌/◌, ◌%◌, ◌<◌}
use Rattle.std.specs.Int.Bits.{bit_xor}
use Rattle.rules.specs.Hash.{hash}
use Rattle.rules.specs.Samples.{house}
use Rattle.hash_rules.specs.Lanes.{lane}
use Rattle.hash_rules.specs.Words.{high_words, low_words}

-- the hash of the exclusive or of two rows is the exclusive or of their hashes, by any seeds
abbrev pub HashOfXor : Type 0
HashOfXor = (seeds : List ℕ) (f row other : ℕ) → hash seeds f (bit_xor row other) ≡ bit_xor (hash seeds f row) (hash seeds f other)

-- a row's hash is the exclusive or of the hashes of its high and its low byte alone, by any seeds
abbrev pub HashByBytes : Type 0
HashByBytes = (seeds : List ℕ) (f row : ℕ) → hash seeds f row ≡ bit_xor (hash seeds f (row / 256 * 256)) (hash seeds f (row % 256))

-- "Each word equals the seed rule for its byte alone": the lane of function f
abbrev pub WordOfByte : Type 0
WordOfByte = (f v : ℕ) → f < 4 → (lane (high_words v) (16 * f) ≡ hash house f (v * 256)) × (lane (low_words v) (16 * f) ≡ hash house f v)

-- "a row's hash is the exclusive or of its two words"
abbrev pub HashByWords : Type 0
HashByWords = (f row : ℕ) → f < 4 → hash house f row ≡ bit_xor (lane (high_words (row / 256)) (16 * f)) (lane (low_words (row % 256)) (16 * f))

pub record Theorems : Type 0 where
  pub hash_of_xor : HashOfXor
  pub hash_by_bytes : HashByBytes
  pub word_of_byte : WordOfByte
  pub hash_by_words : HashByWords
