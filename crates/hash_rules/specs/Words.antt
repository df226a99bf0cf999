-- The table of 2,048 words, by the seed rule.
use Rattle.std.specs.Prelude.{◌≡◌, List, Bool, true, ℕ, ◌*◌}
use Rattle.rules.specs.Hash.{hash}
use Rattle.rules.specs.Samples.{house}
use Rattle.hash_rules.specs.Lanes.{joined}

-- the hashes of a row by these seeds, one lane for each function
unfoldable pub four_hashes : List ℕ → ℕ → ℕ
four_hashes seeds row = joined (hash seeds 0 row) (hash seeds 1 row) (hash seeds 2 row) (hash seeds 3 row)

-- "four functions, high and low byte, 256 values. Each word equals the seed rule for its byte alone": the four words of a value of the high byte,
-- and those of a value of the low byte
abbrev pub high_words : ℕ → ℕ
high_words v = four_hashes house (v * 256)

abbrev pub low_words : ℕ → ℕ
low_words v = four_hashes house v

-- the table is used only "For filters that hold them", the house seeds
abbrev pub TableFor : Bool → List ℕ → Type 0
TableFor table seeds = table ≡ true → seeds ≡ house
