-- Block 0: what set-up tells is the step of the definition.
use mathlib.Core.Path.{◌≡◌, refl, sym, ap, ◌∙◌}
use mathlib.Core.Bool.{Bool}
use mathlib.Core.List.{List}
use Prim.Native.Nat.{ℕ}
use native.Mathlib.Omega.{arith}
use borrow.Author.Tests.{eq-eqb, ne_eqb}
use Rattle.std.specs.Prelude.{Ok, Err}
use Rattle.rules.specs.declared.Setting.{Setting}
use Rattle.rules.specs.Answers.{refusal_number}
use Rattle.rules.specs.State.{State, fresh}
use Rattle.rules.specs.Policy.{limits01, narrow}
use Rattle.rules.specs.Calls.{setup, setup_refusal}
use Rattle.rules.proofs.Step.{setup_code, setup_state}
use Rattle.refused.specs.declared.Refusal.{Refusal}
use Rattle.refused.specs.Numbers.{number_of}
use Rattle.refused.proofs.Laws.{number_some}
use Rattle.sound.specs.Told.{Begun}
use Rattle.log_format.specs.Contents.{setting_in, seeds_in}
use Rattle.log_format.specs.Verdict.{Running, judge_start}
use Rattle.tally.specs.declared.Progress.{Progress}
use Rattle.tally.specs.declared.Report.TheVariants.{Refused}
use Rattle.judge.specs.Follow.{running}
use Rattle.judge.specs.Blocks.{JudgedBlock}

-- one block is read, and no record
abbrev pub one_block : Progress
one_block = record { blocks = 1; records = 0; opened = 0; last = 0 }

module _ (x : Running) (block : List ℕ) (s : Setting) (seeds : List ℕ) (z : State) (es : s ≡ setting_in block) (eseeds : seeds ≡ seeds_in block) where
  pub start_refused : (r : Refusal) → Begun s seeds (Err r) z (setup limits01 s seeds x.state) → JudgedBlock 0 (Err (Refused (number_of r) 0)) (judge_start narrow x block)
  unfolding judge_start
  start_refused r told =
      let number : number_of r ≡ refusal_number (setup_refusal limits01 s seeds x.state) = told.code_is ∙ setup_code limits01 s seeds x.state in
      rw (← es, ← eseeds, ne_eqb (refusal_number (setup_refusal limits01 s seeds x.state)) 0 (λ k. number_some r (number ∙ k)))
      (record { follows = ap (λ (c : ℕ). Err (Refused c 0)) number; ready = tt; moved = tt })

  pub start_on : (table : Bool) → Begun s seeds (Ok table) z (setup limits01 s seeds x.state) → JudgedBlock 0 (Ok (running one_block s seeds z)) (judge_start narrow x block)
  unfolding judge_start
  start_on table told =
      let none : 0 ≡ refusal_number (setup_refusal limits01 s seeds x.state) = told.code_is ∙ setup_code limits01 s seeds x.state in
      let left : z ≡ fresh s x.state = told.state_is ∙ setup_state limits01 s seeds x.state (sym none) in
      rw (← es, ← eseeds, eq-eqb (refusal_number (setup_refusal limits01 s seeds x.state)) 0 (sym none))
      (record {
        follows = rw left refl;
        ready = record {
          blocks = omega arith;
          records = omega arith;
          opened = omega arith;
          model = λ _. (told.accepted, told.sound);
        };
        moved = omega arith;
      })
