-- Where a run begins: block 0 sets the model up, or its setting is refused.
use mathlib.Core.Path.{◌≡◌, refl, sym, ap, ◌∙◌}
use mathlib.Core.List.{List}
use mathlib.Core.Bool.{Bool, true, false}
use Prim.Native.Nat.{ℕ}
use lib.Dec.{eqb}
use Rattle.std.specs.Prelude.{Ok, Err}
use Rattle.rules.specs.Answers.{refusal_number}
use Rattle.rules.specs.Calls.{setup_refusal}
use Rattle.rules.specs.Policy.{limits01, narrow}
use Rattle.rules.proofs.Regular.{in_force_used_flying}
use Rattle.log_format.specs.declared.Entry.{Entry}
use Rattle.log_format.specs.Contents.{setting_in, seeds_in}
use Rattle.log_format.specs.Verdict.{Running, Step, and_then, judge_records, judge_start}
use Rattle.tally.specs.declared.Report.{Report}
use Rattle.judge.specs.Follow.{result_of}
use Rattle.judge.proofs.judged.Steps.{on_then}
use Rattle.cut_rules.specs.Cut.{says_differs, differing}
use Rattle.cut_rules.specs.Roomy.{Roomy}
use Rattle.cut_rules.proofs.Runs.{same_differs}
use Rattle.cut_rules.proofs.Anywhere.{differing_anywhere}

module _ (x : Running) (s : List ℕ) (es : List Entry) (long : Roomy limits01 x.state.counters x.state.ticks x.state.rows x.state.threads) where
  abbrev later : Running → Step
  later y = judge_records narrow y es

  all : differing narrow s es ≡ says_differs (and_then (judge_start narrow x s) later)
  all = sym (differing_anywhere narrow (in_force_used_flying limits01) x s es long)

  -- a refused setting does not differ
  pub begin_over : (d : Report) → Err d ≡ result_of (judge_start narrow x s) → false ≡ differing narrow s es
  unfolding judge_start
  begin_over d f = go (eqb (refusal_number (setup_refusal limits01 (setting_in s) (seeds_in s) x.state)) 0) refl
    where
      go : (q : Bool) → eqb (refusal_number (setup_refusal limits01 (setting_in s) (seeds_in s) x.state)) 0 ≡ q → false ≡ differing narrow s es
      go true k = let h = rw k at f in cc
      go false k = sym (all ∙ rw k refl)

  -- an accepted one goes on with the records, whatever the counts are
  pub begin_on : (z : Running) → Ok z ≡ result_of (judge_start narrow x s) → (y : Running) → y.setting ≡ z.setting → y.seeds ≡ z.seeds → y.state ≡ z.state
      → says_differs (judge_records narrow y es) ≡ differing narrow s es
  begin_on z f y e1 e2 e3 =
      same_differs narrow y z es (rw (e1, e2, e3) refl) ∙ sym (all ∙ ap says_differs (on_then z (judge_start narrow x s) later f))
