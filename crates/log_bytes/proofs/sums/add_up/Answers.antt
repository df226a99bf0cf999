-- `add_up`. The loop's invariant: both sums are those of the bytes passed, and small enough for 32 bits.
use mathlib.Core.Path.{◌≡◌, refl, ◌∙◌}
use native.Mathlib.Omega.{arith}
use lib.ListN.{get_or}
use Rattle.std.proofs.lemmas.List.{get_or-take}
use Rattle.log_format.specs.Blocks.{sum_to, weighted_to}
use Rattle.log_format.proofs.Numbers.{sum_more, weighted_more}
use Rattle.log_bytes.proofs.sums.add_up.Goals as goal

pub loop-i-init : goal.loop-i-init
unfolding sum_to weighted_to
loop-i-init c = (omega arith, omega arith, omega arith, refl, refl)

pub loop-i-preserved : goal.loop-i-preserved
loop-i-preserved c =
    let s = c.args.block.now in
    let b : c.from-b.result ≡ get_or s c.loop-i.i 0 = c.from-b.ensures ∙ get_or-take 508 s c.loop-i.i 0 (omega arith) in (
      omega arith,
      omega arith,
      omega arith,
      rw (sum_more s c.loop-i.i, ← c.loop-i.invariant.3, b),
      rw (weighted_more s c.loop-i.i, ← c.loop-i.invariant.4, c.weight-weighted.ensures.0, b),
    )
