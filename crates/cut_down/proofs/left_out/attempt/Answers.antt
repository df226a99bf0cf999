-- `attempt`: each return is a case of a try.
use mathlib.Core.Path.{◌≡◌, sym, ap, ◌∙◌}
use mathlib.Core.Bool.{true}
use Prim.Native.Nat.{ℕ, ◌-◌, ◌%◌, ◌*◌, ◌^◌}
use native.Mathlib.Omega.{arith}
use Rattle.rules.specs.Policy.{narrow}
use Rattle.cut_rules.specs.selections.Selections.{stays, bits}
use Rattle.cut_rules.proofs.selections.Words.{bit_is}
use Rattle.cut_rules.specs.Cut.{differs_with}
use Rattle.cut_down.proofs.left_out.Tries.{try_gone, try_fits, try_out, try_needed}
use Rattle.cut_down.proofs.left_out.attempt.Goals as goal

pub returns-then-not-is_kept : goal.returns-then-not-is_kept
returns-then-not-is_kept c =
    let a = c.args in (
      try_gone (differs_with narrow a.bytes.now) a.n a.i a.kept c.requires.3 (sym (c.is_kept.ensures a.n c.requires.3) ∙ c.if-not-is_kept.true),
      omega arith,
    )

pub overflow_sub-rest : goal.overflow_sub-rest
overflow_sub-rest c =
    let a = c.args in
    let bit : 1 * 2 ^ a.i % 2 ^ 64 ≡ 2 ^ a.i = bit_is a.i (omega (arith, c.requires.2, c.requires.3)) in
    let there : stays (bits a.n a.kept) a.i ≡ true = sym (c.is_kept.ensures a.n c.requires.3) ∙ c.if-not-is_kept.false in
    omega (arith, bit, try_fits (differs_with narrow a.bytes.now) a.n a.i a.kept c.requires.3 there)

pub returns-then-differs : goal.returns-then-differs
returns-then-differs c =
    let a = c.args in
    let bit : 1 * 2 ^ a.i % 2 ^ 64 ≡ 2 ^ a.i = bit_is a.i (omega (arith, c.requires.2, c.requires.3)) in
    let there : stays (bits a.n a.kept) a.i ≡ true = sym (c.is_kept.ensures a.n c.requires.3) ∙ c.if-not-is_kept.false in
    let says : c.differs.result ≡ differs_with narrow a.bytes.now (bits a.n (a.kept - 2 ^ a.i)) =
    c.differs.ensures ∙ ap (λ (w : ℕ). differs_with narrow a.bytes.now (bits a.n (a.kept - w))) bit in (
      ap (λ (w : ℕ). bits a.n (a.kept - w)) bit
          ∙ try_out (differs_with narrow a.bytes.now) a.n a.i a.kept c.requires.3 there (sym says ∙ c.if-differs.true),
      omega arith,
    )

pub returns : goal.returns
returns c =
    let a = c.args in
    let bit : 1 * 2 ^ a.i % 2 ^ 64 ≡ 2 ^ a.i = bit_is a.i (omega (arith, c.requires.2, c.requires.3)) in
    let there : stays (bits a.n a.kept) a.i ≡ true = sym (c.is_kept.ensures a.n c.requires.3) ∙ c.if-not-is_kept.false in
    let says : c.differs.result ≡ differs_with narrow a.bytes.now (bits a.n (a.kept - 2 ^ a.i)) =
    c.differs.ensures ∙ ap (λ (w : ℕ). differs_with narrow a.bytes.now (bits a.n (a.kept - w))) bit in
    (try_needed (differs_with narrow a.bytes.now) a.n a.i a.kept c.requires.3 there (sym says ∙ c.if-differs.false), omega arith)
