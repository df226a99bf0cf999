-- The refusals about the setting as document 01 has them, 1 to 5, whatever its profile mark, which is not looked at.
use Rattle.std.specs.Prelude.{List, Bool, not, ◌&&◌, ◌||◌, ℕ, ◌-◌, ◌*◌, ◌%◌, ◌^◌, ltb, eqb}
use Rattle.rules.specs.declared.Setting.{Setting}
use Rattle.rules.specs.declared.Limits.{Limits}
use Rattle.rules.specs.Cells.{between}
use Rattle.rules.specs.Answers.{Refusal, none, out_of_range, short_window, bad_delay, long_history, above_limit, refuse}
use Rattle.rules.specs.Setting.{epoch_length, history_length, row_bound, seeds_in_range}

-- the table's ranges, in its order
unfoldable pub fields01 : Limits → Setting → Bool
fields01 m s =
    between 2 (2 ^ 30) s.w
    && eqb (s.w % 2) 0
    && between 1 65535 s.trc
    && between 1 65535 s.tfaw
    && between 1 m.threshold s.n
    && between 1 (2 ^ 29) s.td
    && between 1 (2 ^ 24) s.l
    && between 1 255 s.q
    && between 1 16 s.banks
    && between 1 32 s.threads

-- "An accepted setting is one that meets none of the refusals about the setting, here 1 to 5."
unfoldable pub refusal01 : Limits → Setting → List ℕ → Refusal
refusal01 m s seeds =
    refuse (not (fields01 m s && seeds_in_range seeds)) out_of_range
    (refuse (ltb (s.w - 1) (2 * s.n * s.trc)) short_window
    (refuse (ltb s.td s.trc || ltb (epoch_length s) s.td) bad_delay
    (refuse (ltb m.history (history_length s)) long_history
    (refuse (ltb s.l (row_bound s)) above_limit none))))
