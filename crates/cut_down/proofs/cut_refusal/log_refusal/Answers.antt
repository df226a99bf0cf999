-- `log_refusal`: each return before the setting is tested is a part of the definition.
use mathlib.Core.Path.{ap}
use Prim.Native.Nat.{◌/◌, ◌≤◌}
use native.Mathlib.Omega.{arith}
use lib.ListN.{length}
use Rattle.std.proofs.lemmas.Result.{err_from_is_err_and}
use Rattle.rules.specs.declared.Limits.{Limits}
use Rattle.log_format.specs.Refusals.{log_refusal_number}
use Rattle.judge.proofs.reading.Blocks.{fault_some}
use Rattle.cut_down.proofs.cut_refusal.Parts.{refused_empty, refused_block}
use Rattle.cut_down.proofs.cut_refusal.log_refusal.Goals as goal

pub returns-then-bytes-eq0-clause-coded : goal.returns-then-bytes-eq0-clause-coded
returns-then-bytes-eq0-clause-coded c = refused_empty c.args.bytes.now c.if-bytes-eq0.true

pub returns-in_err-refusal-clause-coded : goal.returns-in_err-refusal-clause-coded
returns-in_err-refusal-clause-coded c =
    let some : 1 ≤ length c.args.bytes.now / 512 = omega (arith, c.if-bytes-eq0.false) in
    let p = err_from_is_err_and c.from_residual.result c.from_residual.ensures.1 in
    rw (p.1, p.2)
    (refused_block c.args.bytes.now some c.block_at-start.result c.block_at-start.ensures _ (ap log_refusal_number c.in_err-refusal.ensures.refused) (fault_some _))

pub refusal-requires-2 : goal.refusal-requires-2
refusal-requires-2 c = let e = ap (λ (m : Limits). m.threshold) c.narrow_limits.ensures in (omega arith, c.difference.ensures)
