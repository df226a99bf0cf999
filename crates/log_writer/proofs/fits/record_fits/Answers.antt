-- `fits::record_fits`: the tests of the definition, in its order.
use mathlib.Core.Path.{refl}
use Rattle.log_format.specs.Encode.{record_fits}
use Rattle.log_writer.proofs.fits.record_fits.Goals as goal

pub returns : goal.returns
unfolding record_fits
returns c = refl
