-- A number in decimal, and lines of a word and numbers.
use Rattle.std.specs.Prelude.{List, [], ◌∷◌, ◌++◌, cond, ℕ, zero, suc, ◌+◌, ◌/◌, ◌%◌, ltb}
use Rattle.report.specs.Bytes.{bytes}

-- ---- numbers

-- a number of at most m digits in decimal: the digits before the last, unless there is one only, and the last. 48 is the code of 0.
unfoldable pub decimal_from : ℕ → ℕ → List ℕ
decimal_from zero n = []
decimal_from (suc m) n = cond (ltb n 10) ((48 + n) ∷ []) (decimal_from m (n / 10) ++ ((48 + n % 10) ∷ []))

-- a number of 64 bits, which has at most 20 digits
unfoldable pub decimal_of : ℕ → List ℕ
decimal_of n = decimal_from 20 n

-- ---- lines, "one space between the parts of a line"

-- a word with its space, and a number
unfoldable pub line_of : List ℕ → ℕ → List ℕ
line_of word n = word ++ (decimal_of n ++ bytes "\n")

-- a word with its space, and two numbers
unfoldable pub line_of_two : List ℕ → ℕ → ℕ → List ℕ
line_of_two word m n = word ++ (decimal_of m ++ (bytes " " ++ (decimal_of n ++ bytes "\n")))
