-- Words of four lanes, 16 bits each: one for each of the four hash functions, or for each of four seeds.
use Rattle.std.specs.Prelude.{ℕ, ◌+◌, ◌*◌, ◌/◌, ◌%◌, ◌^◌}

-- four numbers in one word, the first in the lowest lane
abbrev pub joined : ℕ → ℕ → ℕ → ℕ → ℕ
joined a b c d = a + 65536 * b + 4294967296 * c + 281474976710656 * d

-- the lane of a word that starts at a bit
unfoldable pub lane : ℕ → ℕ → ℕ
lane w bit = w / 2 ^ bit % 2 ^ 16
