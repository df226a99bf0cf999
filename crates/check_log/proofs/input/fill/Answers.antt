-- `fill` makes reads until one is the last.
use mathlib.Core.Path.{refl}
use mathlib.Core.List.{[]}
use native.Mathlib.Omega.{arith}
use Rattle.check_log.specs.Reads.{after_reads, reads_from}
use Rattle.check_log.proofs.input.Given.{grown, reads_more}
use Rattle.check_log.proofs.input.fill.Goals as goal

pub loop-bytes-init : goal.loop-bytes-init
unfolding after_reads reads_from
loop-bytes-init c = (omega arith, refl, ([], refl))

pub after_read-requires : goal.after_read-requires
after_read-requires c =
    omega (arith, c.read_rest-got.auto, c.loop-bytes.invariant)

pub loop-bytes-smaller : goal.loop-bytes-smaller
loop-bytes-smaller c =
    let g = grown _ _ _ _ _ c.in-Continue.ensures refl in
    omega (arith, c.read_rest-got.auto, c.loop-bytes.invariant)

pub loop-bytes-preserved : goal.loop-bytes-preserved
loop-bytes-preserved c =
    let g = grown _ _ _ _ _ c.in-Continue.ensures refl in
    (omega (arith, c.read_rest-got.auto, c.loop-bytes.invariant), omega (arith, c.read_rest-got.auto, c.loop-bytes.invariant), reads_more _ _ _ _ _ _ c.in-Continue.ensures refl (omega (arith, c.read_rest-got.auto, c.loop-bytes.invariant)) c.loop-bytes.invariant.2)

pub returns-in-Break : goal.returns-in-Break
returns-in-Break c =
    reads_more _ _ _ _ _ _ c.in-Break.ensures refl (omega (arith, c.read_rest-got.auto, c.loop-bytes.invariant)) c.loop-bytes.invariant.2
