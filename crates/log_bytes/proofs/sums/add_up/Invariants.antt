-- `add_up`. The loop's invariant: both sums are those of the bytes passed, and small enough for 32 bits.
use Prim.Native.Nat.{◌*◌, ◌≤◌}
use mathlib.Core.Path.{◌≡◌}
use Rattle.log_format.specs.Blocks.{sum_to, weighted_to}
use Rattle.log_bytes.proofs.sums.add_up.Given as goal

abbrev pub invariant-loop-i : goal.invariant-loop-i
invariant-loop-i l =
    (l.i ≤ 508) × (l.plain ≤ 255 * l.i) × (l.weighted ≤ 129540 * l.i) × (l.plain ≡ sum_to l.block l.i) × (l.weighted ≡ weighted_to l.block l.i)
