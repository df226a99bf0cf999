-- `block_at`: 512 bytes, copied.
use mathlib.Core.Path.{◌≡◌}
use Prim.Native.Nat.{◌+◌, ◌-◌, ◌*◌}
use native.Mathlib.Omega.{arith}
use lib.ListN.{take, drop}
use Rattle.std.proofs.Common.{rules}
use Rattle.log_format.specs.Bytes.{block_at}
use Rattle.log_read.proofs.slice.block_at.Goals as goal

pub returns : goal.returns
unfolding block_at
returns c =
    let cut = rw c.unwrap.ensures at c.try_into.ensures in
    let at = 512 * c.args.b in
    let e : c.unwrap.result ≡ take (at + 512 - at) (drop at c.args.bytes.now) = search rules in
    let z : at + 512 - at ≡ 512 = omega arith in
    rw z at e
