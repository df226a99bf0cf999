-- The steps of one block, for the search: refused, block 0, or one with records.
use mathlib.Core.Path.{◌≡◌, sym, ap}
use mathlib.Core.List.{List}
use Prim.Native.Nat.{ℕ, ◌≤◌}
use Rattle.log_format.specs.Refusals.{log_refusal_number, sound}
use Rattle.log_format.specs.Contents.{count_in}
use Rattle.log_format.specs.Blocks.{block_refusal}
use Rattle.log_format.proofs.Steps.{sound_laid_out, later_count}
use Rattle.judge.proofs.reading.Blocks.{block_refused, block_started, block_later}

-- a sound block with records has at most 20
pub sound_count : (block : List ℕ) (index before : ℕ) → sound ≡ block_refusal block index before → 1 ≤ index → count_in block ≤ 20
sound_count block index before e some =
    (later_count block index before some (sound_laid_out block index before (sym (ap log_refusal_number e)))).1

pub ruleset block_steps = (block_refused, block_started, block_later, sound_count)
