-- What reads gave, and what a block is then. A read gives None where it fails, else a count of bytes, 0 where nothing is left to read.
use Rattle.std.specs.Prelude.{List, [], ◌∷◌, cond, ℕ, ◌+◌, ◌-◌, eqb, ltb, Option, Some, None}
use Rattle.std.specs.declared.ops.ControlFlow.{ControlFlow}
use Rattle.std.specs.declared.ops.ControlFlow.TheVariants.{Continue, Break}
use Rattle.check_log.specs.declared.input.Filled.{Filled}
use Rattle.check_log.specs.declared.input.Filled.TheVariants.{Whole, End, Cut}

-- nothing is left to read: the input is at its end before the first byte of a block, and cut within one
unfoldable pub nothing_left : ℕ → Filled
nothing_left done = cond (eqb done 0) End Cut

-- a read of a block of this size, of which `done` bytes were there. Where it failed, the input is cut.
unfoldable pub after_read : ℕ → ℕ → Option ℕ → ControlFlow Filled ℕ
after_read size done None = Break Cut
after_read size done (Some n) =
    cond (eqb n 0)
    (Break (nothing_left done))
    (cond (ltb n (size - done)) (Continue (done + n)) (Break Whole))

-- one read more, where one is to be made
abbrev pub next : ℕ → ControlFlow Filled ℕ → Option ℕ → ControlFlow Filled ℕ
next size (Continue done) got = after_read size done got
next size (Break filled) got = Break filled

-- read after read
unfoldable pub reads_from : ℕ → ControlFlow Filled ℕ → List (Option ℕ) → ControlFlow Filled ℕ
reads_from size r [] = r
reads_from size r (got ∷ gots) = reads_from size (next size r got) gots

-- the reads of a block, of which nothing was there before
unfoldable pub after_reads : ℕ → List (Option ℕ) → ControlFlow Filled ℕ
after_reads size gots = reads_from size (Continue 0) gots
