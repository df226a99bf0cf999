-- `encode::throttle_log_seal`: refused with nothing stored, or the block framed.
use mathlib.Core.Path.{◌≡◌}
use Rattle.std.proofs.Common.{rules}
use Rattle.rules.specs.Cells.{between}
use Rattle.log_format.specs.Encode.{seal_fits, seal_written}
use Rattle.log_writer.proofs.encode.throttle_log_seal.Goals as goal

pub returns-then-not-fits : goal.returns-then-not-fits
unfolding seal_written seal_fits
returns-then-not-fits c =
    let n : c.contains.result ≡ between 1 4294967295 c.args.number = search rules in
    let k : c.contains-2.result ≡ between 1 20 c.args.count = search rules in
    simp (← n, ← k, c.if-not-fits.true)

pub returns : goal.returns
unfolding seal_written seal_fits
returns c =
    let n : c.contains.result ≡ between 1 4294967295 c.args.number = search rules in
    let k : c.contains-2.result ≡ between 1 20 c.args.count = search rules in
    simp (← n, ← k, c.if-not-fits.false, c.frame.ensures)
