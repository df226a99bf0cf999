-- `are_records`: the test of each record.
use mathlib.Core.Path.{refl, ◌∙◌}
use Prim.Native.Nat.{ℕ}
use native.Mathlib.Omega.{arith}
use Rattle.std.proofs.Common.{rules}
use Rattle.std.proofs.lemmas.Iterator.{YieldsList-from_range}
use Rattle.std.proofs.lemmas.Iterator.Search.{all_from_yields_List}
use Rattle.log_format.specs.Blocks.{record_laid_out}
use Rattle.log_bytes.proofs.Every.{every_range}
use Rattle.log_read.proofs.records.are_records.Goals as goal

pub returns : goal.returns
returns c =
    let p = λ (k : ℕ). record_laid_out c.args.block.now k in
    all_from_yields_List p _ _ c.all.result c.all.ensures.ran (YieldsList-from_range 0 c.args.n c.args.n refl (omega arith)) (λ x b q k. search rules)
    ∙ every_range p c.args.n
