-- One row more, and all rows.
use mathlib.Core.Path.{◌≡◌, ap}
use mathlib.Core.List.{List}
use mathlib.Core.Bool.{true, false}
use Prim.Native.Nat.{ℕ, ◌+◌}
use native.Mathlib.Numerals.{add-one}
use lib.Bits.{bit_xor}
use lib.ListN.{length, get_or}
use Rattle.rules.specs.Setting.{seeds_in_range}
use Rattle.rules.specs.Hash.{places}
use Rattle.hash_rules.specs.Lanes.{joined}
use Rattle.hash_rules.specs.Words.{four_hashes}
use Rattle.hash_rows.specs.Rows.{hashed_to, hashed_rows}

-- four places, joined, are the row's four hashes
joined_places : (seeds at : List ℕ) (row : ℕ) → at ≡ places seeds row → joined (get_or at 0 0) (get_or at 1 0) (get_or at 2 0) (get_or at 3 0) ≡ four_hashes seeds row
unfolding places four_hashes
joined_places seeds at row e = ap (λ l. joined (get_or l 0 0) (get_or l 1 0) (get_or l 2 0) (get_or l 3 0)) e

pub one_more : (seeds rows at : List ℕ) (i all word : ℕ) → all ≡ hashed_to seeds rows i → at ≡ places seeds (get_or rows i 0)
    → word ≡ joined (get_or at 0 0) (get_or at 1 0) (get_or at 2 0) (get_or at 3 0) → bit_xor all word ≡ hashed_to seeds rows (i + 1)
one_more seeds rows at i all word e ep ew = rw (add-one i, e, ew, joined_places seeds at (get_or rows i 0) ep)

pub all_rows : (seeds rows : List ℕ) (all : ℕ) → seeds_in_range seeds ≡ true → all ≡ hashed_to seeds rows (length rows) → all ≡ hashed_rows seeds rows
unfolding hashed_rows
all_rows seeds rows all ok e = rw ok e

pub none_ranged : (seeds rows : List ℕ) → seeds_in_range seeds ≡ false → 0 ≡ hashed_rows seeds rows
unfolding hashed_rows
none_ranged seeds rows other = rw other
