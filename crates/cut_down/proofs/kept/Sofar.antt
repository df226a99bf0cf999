-- The records of a selection, judged so far.
use mathlib.Core.Path.{◌≡◌, refl, sym, ap, ◌∙◌}
use mathlib.Core.List.{List, ◌∷◌}
use mathlib.Core.Bool.{Bool, true, false}
use Prim.Native.Nat.{ℕ, suc, ◌+◌, ◌≤◌, ◌<◌}
use native.Mathlib.Omega.{arith}
use native.Mathlib.Numerals.{add-one}
use lib.ListN.{length, drop}
use Rattle.std.specs.Prelude.{Ok, Err}
use Rattle.rules.specs.declared.Setting.{Setting}
use Rattle.rules.specs.State.{State}
use Rattle.rules.specs.Policy.{narrow}
use Rattle.rules.specs.Tested.{Sound}
use Rattle.log_format.specs.declared.Entry.{Entry}
use Rattle.log_format.specs.Verdict.{agrees, differs, Verdict, refused_after, judged, Running, Step, over, on, and_then, judge_record, judge_records}
use Rattle.tally.specs.declared.Progress.{Progress}
use Rattle.tally.specs.declared.Report.{Report}
use Rattle.tally.specs.Settled.{Room}
use Rattle.judge.specs.Follow.{running, report_of, result_of, Judged}
use Rattle.judge.proofs.judged.Steps.{on_then}
use Rattle.cut_rules.specs.selections.Selections.{stays, chosen}
use Rattle.cut_rules.proofs.selections.Chosen.{chosen_here, chosen_past, chosen_end}
use Rattle.cut_rules.specs.Cut.{is_differs, says_differs}
use Rattle.cut_down.specs.Kept.{none_judged, report_differs}

-- a report of a verdict says what the verdict says
report_says : (v : Verdict) → report_differs (report_of v) ≡ is_differs v
report_says (refused_after r blocks) = refl
report_says (judged records opened agrees) = refl
report_says (judged records opened (differs block place)) = refl

-- an event ends the run with what its report says
over_says : (d : Report) (y : Step) (f : Running → Step) → Err d ≡ result_of y → report_differs d ≡ says_differs (and_then y f)
over_says d (over v) f h = let e : d ≡ report_of v = cc in ap report_differs e ∙ report_says v
over_says d (on y) f h = cc

module _ (s : Setting) (seeds : List ℕ) (sel : List Bool) (rs : List Entry) (n : ℕ) (d : Bool) where
  -- record i is the next: what the rest says is what all say, d
  pub record Sofar (p : Progress) (st : State) (i : ℕ) : Type 0 where
    pub records : p.records ≤ i
    pub opened : p.opened ≤ i
    pub last : p.last ≤ i
    pub sound : Sound s st
    pub rest : d ≡ says_differs (judge_records narrow (running p s seeds st) (chosen (drop i sel) (drop i rs)))

  pub sofar_none : (st : State) → Sound s st → d ≡ says_differs (judge_records narrow (running none_judged s seeds st) (chosen sel rs)) → Sofar none_judged st 0
  sofar_none st ok e = record { records = omega arith; opened = omega arith; last = omega arith; sound = ok; rest = e }

  module _ (ls : length sel ≡ n) (lr : length rs ≡ n) (p : Progress) (st : State) (i : ℕ) (so : Sofar p st i) where
    pub sofar_room : i < n → n ≤ 64 → Room p 1
    sofar_room h few = record { records = omega (arith, so.records); opened = omega (arith, so.opened); last = omega (arith, so.last) }

    pub sofar_end : n ≤ i → false ≡ d
    unfolding judge_records
    sofar_end h =
        sym (so.rest ∙ ap (λ (es : List Entry). says_differs (judge_records narrow (running p s seeds st) es)) (chosen_end sel rs i (omega (arith, lr))))

    module _ (h : i < n) (e : Entry) (at : drop i rs ≡ e ∷ drop (suc i) rs) where
      -- a record that is left out
      pub sofar_past : stays sel i ≡ false → Sofar p st (i + 1)
      sofar_past gone =
          record {
            records = omega (arith, so.records);
            opened = omega (arith, so.opened);
            last = omega (arith, so.last);
            sound = so.sound;
            rest =
                so.rest
                ∙ ap (λ (es : List Entry). says_differs (judge_records narrow (running p s seeds st) es))
                (rw add-one (chosen_past sel rs i e (omega (arith, ls)) at gone));
          }

      -- one that stays
      module _ (here : stays sel i ≡ true) (left : State) where
        abbrev later : Running → Step
        later y = judge_records narrow y (chosen (drop (suc i) sel) (drop (suc i) rs))

        by_one : d ≡ says_differs (and_then (judge_record narrow (running p s seeds st) e) later)
        unfolding judge_records
        by_one =
            so.rest
            ∙ ap (λ (es : List Entry). says_differs (judge_records narrow (running p s seeds st) es)) (chosen_here sel rs i e (omega (arith, ls)) at here)

        pub sofar_over : (r : Report) → Judged s seeds p 1 (Err r) left (judge_record narrow (running p s seeds st) e) → report_differs r ≡ d
        sofar_over r j = over_says r (judge_record narrow (running p s seeds st) e) later j.follows ∙ sym by_one

        pub sofar_more : (q : Progress) → Judged s seeds p 1 (Ok q) left (judge_record narrow (running p s seeds st) e) → Sofar q left (i + 1)
        sofar_more q j =
            record {
              records = omega (arith, j.records, so.records);
              opened = omega (arith, j.opened, so.opened);
              last = omega (arith, j.last, so.last);
              sound = j.sound;
              rest =
                  rw add-one (by_one ∙ ap says_differs (on_then (running q s seeds left) (judge_record narrow (running p s seeds st) e) later j.follows));
            }
