-- `pad`: zeros over the rest of the body.
use Prim.Native.Nat.{ℕ, ◌-◌}
use mathlib.Core.Path.{◌≡◌, sym, ap, ◌∙◌}
use native.Mathlib.Omega.{arith}
use lib.ListN.{length, replicate, length-replicate}
use borrow.Rule.Slice.PartMut.{mid_of, put_mid}
use mathlib.Core.List.{List}
use Rattle.log_format.specs.Encode.{padded}
use Rattle.log_bytes.proofs.Parts.{part_long, put_part}
use Rattle.log_writer.proofs.frame.pad.Goals as goal

pub returns : goal.returns
unfolding padded
returns c =
    let s = c.args.block.now in
    let from = c.args.from in
    let n : length (mid_of from (508 - from) s) ≡ 508 - from = part_long s from (508 - from) (omega arith) in
    let filled : c.fill.new.self ≡ replicate (508 - from) 0 = c.fill.ensures.after (λ y e. e) ∙ ap (λ (k : ℕ). replicate k 0) n in
    ap (λ (ys : List ℕ). put_mid from (508 - from) s ys) filled
    ∙ put_part s (replicate (508 - from) 0) from (508 - from) (sym (length-replicate {A = ℕ} (508 - from) 0)) (omega arith)
