-- `read::word32`: four bytes, the lowest first.
use mathlib.Core.Path.{◌≡◌, ◌∙◌}
use Prim.Native.Nat.{◌+◌, ◌-◌}
use native.Mathlib.Omega.{arith}
use lib.ListN.{take, drop}
use Rattle.std.proofs.Common.{rules}
use Rattle.log_bytes.proofs.Words.{little_cut, read_4}
use Rattle.log_bytes.proofs.read.word32.Goals as goal

pub returns : goal.returns
returns c =
    let s = c.args.block.now in
    let cut = rw c.unwrap.ensures at c.try_into.ensures in
    let u : c.unwrap.result ≡ take (c.args.at + 4 - c.args.at) (drop c.args.at s) = search rules in
    (c.from.ensures ∙ c.from_le_bytes.ensures ∙ read_4 c.unwrap.result ∙ little_cut s c.unwrap.result c.args.at 4 u, omega arith)
