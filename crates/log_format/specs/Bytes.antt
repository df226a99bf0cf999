-- Numbers in bytes, and the blocks of a log. A log is a list of bytes.
use Rattle.std.specs.Prelude.{List, [], ◌∷◌, Bool, ℕ, zero, suc, ◌+◌, ◌*◌, ◌/◌, ◌%◌, eqb, get_or, take, drop}
use Rattle.rules.specs.Cells.{every}

-- "numbers little-endian": the number in the n bytes from place k on
unfoldable pub little : List ℕ → ℕ → ℕ → ℕ
little s k zero = 0
little s k (suc n) = get_or s k 0 + 256 * little s (suc k) n

-- the other way round: the n lowest bytes of a number
unfoldable pub bytes_of : ℕ → ℕ → List ℕ
bytes_of zero x = []
bytes_of (suc n) x = x % 256 ∷ bytes_of n (x / 256)

-- the n bytes from place k on are zero
unfoldable pub zeros : List ℕ → ℕ → ℕ → Bool
zeros s k n = every n (λ i. eqb (get_or s (k + i) 0) 0)

-- "Blocks of 512 bytes": block b of a log
unfoldable pub block_at : List ℕ → ℕ → List ℕ
block_at bytes b = take 512 (drop (512 * b) bytes)

-- n blocks from block b on
abbrev pub blocks_from : List ℕ → ℕ → ℕ → List (List ℕ)
blocks_from bytes b zero = []
blocks_from bytes b (suc n) = block_at bytes b ∷ blocks_from bytes (suc b) n
