-- `is_laid_out`: the frame, and then the body of block 0 or of a later block.
use Prim.Native.Nat.{ℕ, ◌^◌, ◌<◌}
use mathlib.Core.Path.{◌≡◌, sym, ◌∙◌}
use mathlib.Core.Bool.{true, ◌&&◌}
use mathlib.Core.List.{List}
use native.Mathlib.Omega.{arith}
use lib.Dec.{eqb}
use borrow.Author.Tests.{eq-eqb, ne_eqb}
use Rattle.rules.proofs.Tests.{and_assoc}
use Rattle.log_format.specs.Bytes.{little}
use Rattle.log_format.specs.Blocks.{laid_out}
use Rattle.log_format.proofs.Steps.{laid_out_number}
use Rattle.log_read.proofs.layout.is_laid_out.Goals as goal

-- a block that is laid out has a number of 32 bits
small : (s : List ℕ) (index before number : ℕ) → laid_out s index before ≡ true → number ≡ little s 0 4 → number < 4294967296 → index < 2 ^ 32
small s index before number h e b = omega (arith, laid_out_number s index before h, e, b)

pub returns-then-index-eq0 : goal.returns-then-index-eq0
unfolding laid_out
returns-then-index-eq0 c =
    let e : (eqb c.word32.result c.args.index && c.are_zero.result && c.is_start.result) ≡ laid_out c.args.block.now c.args.index c.args.before =
    simp (eq-eqb _ _ c.if-index-eq0.true, c.is_start.ensures, c.word32.ensures.0, c.are_zero.ensures)
    in
    (e, λ t. small c.args.block.now c.args.index c.args.before c.word32.result (sym e ∙ t) c.word32.ensures.0 c.word32.ensures.1)

pub returns : goal.returns
unfolding laid_out
returns c =
    let e : (eqb c.word32.result c.args.index && c.are_zero.result && c.is_in_turn.result && c.is_later.result) ≡ laid_out c.args.block.now c.args.index c.args.before =
    and_assoc (eqb c.word32.result c.args.index && c.are_zero.result) c.is_in_turn.result c.is_later.result
    ∙ simp (ne_eqb _ _ c.if-index-eq0.false, c.is_in_turn.ensures, c.is_later.ensures, c.word32.ensures.0, c.are_zero.ensures)
    in
    (e, λ t. small c.args.block.now c.args.index c.args.before c.word32.result (sym e ∙ t) c.word32.ensures.0 c.word32.ensures.1)
