-- The hashes of many rows together.
use Rattle.std.specs.Prelude.{List, cond, ℕ, zero, suc, length, get_or}
use Rattle.std.specs.Int.Bits.{bit_xor}
use Rattle.rules.specs.Setting.{seeds_in_range}
use Rattle.hash_rules.specs.Words.{four_hashes}

-- the exclusive or of the hashes of the first n rows
abbrev pub hashed_to : List ℕ → List ℕ → ℕ → ℕ
hashed_to seeds rows zero = 0
hashed_to seeds rows (suc n) = bit_xor (hashed_to seeds rows n) (four_hashes seeds (get_or rows n 0))

-- that of all, and 0 for seeds out of range
unfoldable pub hashed_rows : List ℕ → List ℕ → ℕ
hashed_rows seeds rows = cond (seeds_in_range seeds) (hashed_to seeds rows (length rows)) 0
