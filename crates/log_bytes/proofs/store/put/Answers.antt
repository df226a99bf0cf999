-- `store::put`. The loop's invariant: storing the bytes that are left, from the place reached on, gives the bytes that are promised.
use Prim.Native.Nat.{◌+◌, ◌-◌}
use mathlib.Core.Path.{◌≡◌, sym, ◌∙◌}
use native.Mathlib.Omega.{arith}
use Rattle.log_format.specs.Bytes.{bytes_of}
use Rattle.log_format.proofs.Numbers.{put_step}
use Rattle.log_format.proofs.Stores.{length_bytes}
use Rattle.log_bytes.proofs.Parts.{part_long, put_sets}
use Rattle.log_bytes.proofs.store.put.Goals as goal

pub loop-b-preserved : goal.loop-b-preserved
loop-b-preserved c =
    let i = c.loop-b.b-index in
    let n = c.args.n in
    let part = part_long c.args.block.now c.args.at (c.args.at + n - c.args.at) (omega arith) in
    let e : n - (i + 1) ≡ n - i - 1 = omega arith in
    (omega arith, rw e (sym (put_step c.loop-b.b-items i (n - i) c.loop-b.left (omega arith)) ∙ c.loop-b.invariant.1))

pub returns : goal.returns
unfolding bytes_of
returns c =
    let s = c.args.block.now in
    let n = c.args.n in
    let part = part_long s c.args.at (c.args.at + n - c.args.at) (omega arith) in
    let z : n - c.loop-b.b-index ≡ 0 = omega arith in
    rw (rw z at c.loop-b.invariant.1)
    (put_sets s (bytes_of n c.args.x) c.args.at (c.args.at + n - c.args.at) (omega (arith, length_bytes n c.args.x)) (omega arith))
