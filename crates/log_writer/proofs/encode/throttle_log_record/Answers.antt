-- `encode::throttle_log_record`: refused with nothing stored, or the record put.
use mathlib.Core.Path.{sym, ◌∙◌}
use Rattle.log_format.specs.Encode.{record_written}
use Rattle.log_format.proofs.Fits.{fits_place}
use Rattle.log_writer.proofs.encode.throttle_log_record.Goals as goal

pub returns-then-not-record_fits : goal.returns-then-not-record_fits
unfolding record_written
returns-then-not-record_fits c = simp (sym c.record_fits.ensures ∙ c.if-not-record_fits.true)

pub put_record-requires : goal.put_record-requires
put_record-requires c = fits_place _ _ (sym c.record_fits.ensures ∙ c.if-not-record_fits.false)

pub returns : goal.returns
unfolding record_written
returns c = simp (sym c.record_fits.ensures ∙ c.if-not-record_fits.false, c.put_record.ensures)
