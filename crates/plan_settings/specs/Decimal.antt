-- Which number a word of the command line stands for.
use Rattle.std.specs.Prelude.{List, cond, ℕ, zero, suc, ◌+◌, ◌-◌, ◌*◌, ltb, eqb, length, get_or, Option, Some, None}
use Rattle.rules.specs.Cells.{between}

-- the number v followed by the decimal digit with this code
abbrev pub followed : ℕ → ℕ → ℕ
followed v code = 10 * v + (code - 48)

-- The digits of the n bytes from place i on, after the number v. They are no number where a byte is no digit or the number is above `most`.
unfoldable pub digits_from : ℕ → ℕ → List ℕ → ℕ → ℕ → Option ℕ
digits_from most zero word i v = Some v
digits_from most (suc n) word i v =
    cond (between 48 57 (get_or word i 0))
    (cond (ltb most (followed v (get_or word i 0))) None (digits_from most n word (suc i) (followed v (get_or word i 0))))
    None

-- a word of one decimal digit or more, of a number up to `most`
unfoldable pub number_of : ℕ → List ℕ → Option ℕ
number_of most word = cond (eqb (length word) 0) None (digits_from most (length word) word 0 0)
