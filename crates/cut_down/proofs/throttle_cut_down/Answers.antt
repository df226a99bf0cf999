-- `throttle_cut_down` returns the number of the refusal and leaves out as it was.
use mathlib.Core.Path.{◌∙◌}
use native.Mathlib.Omega.{arith}
use Rattle.cut_down.proofs.throttle_cut_down.Goals as goal

pub returns-in-Err : goal.returns-in-Err
returns-in-Err c =
    let h = c.in-Err.ensures c.args.out.now in
    let number = c.from.ensures ∙ h.0 in
    (grind (arith, number), h.1)
