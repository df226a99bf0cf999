-- `tests::are_zero`: no bit is set exactly where each byte is zero.
use mathlib.Core.Path.{◌≡◌}
use Prim.Native.Nat.{◌+◌, ◌-◌}
use native.Mathlib.Omega.{arith}
use lib.Bits.{bit_or}
use lib.ListN.{take, drop}
use Rattle.std.proofs.Common.{rules}
use Rattle.std.specs.List.{fold}
use Rattle.log_format.specs.Bytes.{zeros}
use Rattle.log_bytes.proofs.Zeros.{zeros_fold}
use Rattle.log_bytes.proofs.tests.are_zero.Goals as goal

pub returns : goal.returns
unfolding zeros
returns c =
    let s = c.args.block.now in
    let ran : c.fold.result ≡ fold (λ a b. bit_or a b) 0 (take (c.args.from + c.args.n - c.args.from) (drop c.args.from s)) = search rules in
    let e : c.args.from + c.args.n - c.args.from ≡ c.args.n = omega arith in
    rw (ran, e) (zeros_fold s c.args.from c.args.n (omega arith))
