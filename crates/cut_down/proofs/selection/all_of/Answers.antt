-- `all_of`: n bits set.
use mathlib.Core.Path.{◌≡◌, sym, ap}
use Prim.Native.Nat.{ℕ, ◌-◌, ◌*◌, ◌%◌, ◌^◌}
use native.Mathlib.Omega.{arith}
use lib.Pow.{pow_pos}
use Rattle.cut_rules.proofs.selections.Words.{bit_is}
use Rattle.cut_down.proofs.selection.all_of.Goals as goal

pub returns-then-n-eq64 : goal.returns-then-n-eq64
returns-then-n-eq64 c = sym (ap (λ (n : ℕ). 2 ^ n - 1) c.if-n-eq64.true)

pub overflow_sub-result : goal.overflow_sub-result
overflow_sub-result c =
    let bit : 1 * 2 ^ c.args.n % 2 ^ 64 ≡ 2 ^ c.args.n = bit_is c.args.n (omega (arith, c.requires, c.if-n-eq64.false)) in
    omega (arith, bit, pow_pos c.args.n)

pub returns : goal.returns
returns c =
    let bit : 1 * 2 ^ c.args.n % 2 ^ 64 ≡ 2 ^ c.args.n = bit_is c.args.n (omega (arith, c.requires, c.if-n-eq64.false)) in
    ap (λ (b : ℕ). b - 1) bit
