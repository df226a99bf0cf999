-- `tested` gives the refusal of the tests, and the table where no seed differs from the house seeds.
use mathlib.Core.Path.{sym, ap, ◌∙◌}
use borrow.Author.Tests.{eqb-true}
use Rattle.refused.specs.Numbers.{code_of}
use Rattle.refused.proofs.Laws.{code_passed}
use Rattle.lent.proofs.request.Settled.{not_ok, code_up}
use Rattle.lent.proofs.request.tested.Goals as goal

pub returns-in_err-call_refusal : goal.returns-in_err-call_refusal
returns-in_err-call_refusal c =
    let back = c.from_residual in
    record {
      refusal = code_up _ back.result _ (sym c.call_refusal.ensures ∙ c.in_err-call_refusal.was) back.ensures.1;
      table = not_ok back.result _ _ back.ensures.1;
    }

pub returns : goal.returns
returns c =
    record {
      refusal = ap code_of (sym c.in_ok-call_refusal.was ∙ c.call_refusal.ensures) ∙ code_passed _;
      table = λ e. c.difference-differing.ensures.none (eqb-true _ 0 e);
    }
