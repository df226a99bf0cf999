-- `encode::throttle_log_start`: refused with nothing stored, or block 0 written.
use mathlib.Core.Path.{◌≡◌}
use mathlib.Core.Bool.{true}
use Rattle.log_format.specs.Encode.{start_fits, start_written}
use Rattle.log_format.proofs.Fits.{start_stores}
use Rattle.log_writer.proofs.encode.throttle_log_start.Goals as goal

pub returns-then-not-fits : goal.returns-then-not-fits
unfolding start_written start_fits
returns-then-not-fits c = simp (← c.setting_fits.ensures, ← c.is_known.ensures, c.if-not-fits.true)

pub returns : goal.returns
unfolding start_fits
returns c =
    let fits : start_fits c.args.setting.now c.args.seeds.now ≡ true = simp (← c.setting_fits.ensures, ← c.is_known.ensures, c.if-not-fits.false) in
    start_stores _ _ _ _ _ _ _ fits c.put_setting.ensures c.put_seeds.ensures c.put_mark.ensures c.frame.ensures
