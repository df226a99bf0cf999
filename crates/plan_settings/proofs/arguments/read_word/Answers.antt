-- `read_word`: what one byte more gives, at the place of the loop.
use mathlib.Core.Path.{refl, sym, ◌∙◌}
use native.Mathlib.Omega.{arith}
use borrow.Author.Tests.{eqb-false}
use Rattle.plan_settings.specs.Decimal.{number_of}
use Rattle.plan_settings.proofs.arguments.Reading.{no_digit, too_large, one_more, all_read, at_start}
use borrow.Author.Rules.{rules}
use Rattle.plan_settings.proofs.arguments.read_word.Goals as goal

pub returns-then-is_empty : goal.returns-then-is_empty
unfolding number_of
returns-then-is_empty c = simp (sym c.if-is_empty.ensures)

pub loop-code-init : goal.loop-code-init
loop-code-init c = (omega arith, at_start c.args.most c.args.word.now (eqb-false _ _ (sym c.if-is_empty.ensures)))

pub returns-then-code-lt48 : goal.returns-then-code-lt48
returns-then-code-lt48 c =
    sym (no_digit c.args.most c.args.word.now c.loop-code.code-index c.loop-code.v _ c.loop-code-test.true refl c.then-code-lt48.either)
    ∙ c.loop-code.invariant.1

pub returns-then-v-most : goal.returns-then-v-most
returns-then-v-most c =
    sym (too_large c.args.most c.args.word.now c.loop-code.code-index c.loop-code.v _ c.loop-code-test.true refl c.if-code-lt48.false (search rules) (rw c.from.ensures at c.if-v-most.true))
    ∙ c.loop-code.invariant.1

pub loop-code-preserved : goal.loop-code-preserved
loop-code-preserved c =
    let more = one_more c.args.most c.args.word.now c.loop-code.code-index c.loop-code.v _ c.loop-code-test.true refl c.if-code-lt48.false (search rules) (rw c.from.ensures at c.if-v-most.false) in
    (c.if-v-most.false, rw c.from.ensures (sym more ∙ c.loop-code.invariant.1))

pub returns : goal.returns
returns c =
    sym (all_read c.args.most c.args.word.now c.loop-code.code-index c.loop-code.v (search rules)) ∙ c.loop-code.invariant.1
