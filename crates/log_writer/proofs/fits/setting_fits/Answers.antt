-- `fits::setting_fits`: the test of each of the nine numbers.
use mathlib.Core.Path.{◌∙◌}
use Prim.Native.Nat.{ℕ, ◌^◌}
use native.Mathlib.Omega.{arith}
use lib.Dec.{ltb}
use lib.ListN.{take}
use Rattle.std.proofs.Common.{rules}
use Rattle.std.proofs.lemmas.Iterator.{YieldsList-from_slice}
use Rattle.std.proofs.lemmas.Iterator.Search.{all_from_yields_List}
use Rattle.log_bytes.proofs.Every.{every_take}
use Rattle.log_writer.proofs.fits.setting_fits.Goals as goal

pub returns : goal.returns
returns c =
    let p = λ (x : ℕ). ltb x (2 ^ 32) in
    let s = c.args.setting.now in
    all_from_yields_List p _ _ c.all.result c.all.ensures.ran (YieldsList-from_slice (take 9 s) (cc)) (λ x b q k. search rules) ∙ every_take p s 9 (omega arith)
