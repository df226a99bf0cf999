-- What is cut from a log that was written under S, by the rules' replies: its bytes are not computed.
use mathlib.Core.Path.{◌≡◌, refl, ap, fun_ext, ◌∙◌}
use mathlib.Core.List.{List, [], ◌∷◌}
use mathlib.Core.Bool.{Bool, true, false}
use Prim.Native.Nat.{ℕ, ◌-◌, ◌*◌, ◌^◌, ◌≤◌, ◌<◌}
use lib.ListN.{length, replicate}
use Rattle.rules.specs.Cells.{All}
use Rattle.rules.specs.Answers.{none}
use Rattle.rules.specs.Setting.{setting_of, history_length, row_bound, fields_in_range, seeds_in_range, setting_refusal}
use Rattle.rules.specs.Policy.{Policy, narrow}
use Rattle.rules.specs.Samples.{house, S}
use Rattle.log_format.specs.declared.Entry.{Entry}
use Rattle.log_format.specs.Bytes.{block_at}
use Rattle.log_format.specs.Refusals.{log_refusal_number}
use Rattle.log_format.specs.Contents.{setting_in, seeds_in}
use Rattle.log_format.specs.Verdict.{memory, set_up, judge_start, unread}
use Rattle.log_format.specs.Claims.{setting_of_log, seeds_of_log, records_of, rules_say, Writable}
use Rattle.log_format.proofs.Agrees.{setup_accepts}
use Rattle.log_format.proofs.WrittenLog.{Holding, written_log}
use Rattle.samples.specs.log.Samples.{log_s}
use Rattle.cut_rules.specs.selections.Selections.{chosen, pass, cut_down}
use Rattle.cut_rules.specs.Cut.{log_refusal, judgement, differing, differs_with, refused_with, keeps, cut_of}
use Rattle.cut_rules.proofs.Runs.{differs_in, by_replies}
use Rattle.cut_rules.proofs.Blocks.{not_refused}
use Rattle.cut_rules.proofs.Codes.{cut_many, cut_same, cut_keeps}

-- whether records differ, by the rules' replies from set-up
by_rules : (p : Policy) (s : List ℕ) (es : List Entry) → setting_refusal p.limits (setting_in s) (seeds_in s) ≡ none
    → differing p s es ≡ differs_in es (rules_say p (setting_in s) (seeds_in s) es)
unfolding differing judgement judge_start unread
by_rules p s es e =
    rw (setup_accepts p.limits (setting_in s) (seeds_in s) e) (by_replies p (set_up (setting_in s) (seeds_in s) (memory p.limits)) es)

-- under S with the house seeds
abbrev pub differs_s : List Entry → Bool
differs_s es = differs_in es (rules_say narrow S house es)

accepted_s : setting_refusal narrow.limits S house ≡ none
unfolding setting_of house history_length row_bound fields_in_range seeds_in_range setting_refusal
accepted_s = refl

module _ (es : List Entry) (w : All Writable es) (few : length es ≤ 20 * (2 ^ 32 - 1)) where
  holding : Holding (40 ∷ 1 ∷ 4 ∷ 2 ∷ 6 ∷ 10 ∷ 4 ∷ 1 ∷ 1 ∷ 0 ∷ []) house es (log_s es)
  unfolding log_s
  holding = written_log narrow.limits (λ b. replicate 512 0) (40 ∷ 1 ∷ 4 ∷ 2 ∷ 6 ∷ 10 ∷ 4 ∷ 1 ∷ 1 ∷ 0 ∷ []) house es (λ b. refl) accepted_s w few

  accepted : setting_refusal narrow.limits (setting_of_log (log_s es)) (seeds_of_log (log_s es)) ≡ none
  accepted = rw (holding.setting, holding.seeds) accepted_s

  readable : log_refusal_number (log_refusal narrow.limits (log_s es)) ≡ 0
  readable = ap log_refusal_number (not_refused narrow.limits (log_s es) holding.well_formed accepted)

  says : (fs : List Entry) → differing narrow (block_at (log_s es) 0) fs ≡ differs_s fs
  says fs = by_rules narrow (block_at (log_s es) 0) fs accepted ∙ rw (holding.setting, holding.seeds)

  tests : differs_with narrow (log_s es) ≡ λ sel. differs_s (chosen sel es)
  tests = fun_ext (λ sel. says (chosen sel (records_of (log_s es))) ∙ ap (λ l. differs_s (chosen sel l)) holding.records)

  pub pass_s : (sel : List Bool) → pass (differs_with narrow (log_s es)) sel ≡ pass (λ t. differs_s (chosen t es)) sel
  pass_s sel = ap (λ f. pass f sel) tests

  pub many_s : 64 < length es → cut_of narrow (log_s es) ≡ refused_with 20
  many_s h = cut_many narrow (log_s es) readable (rw holding.records h)

  pub same_s : length es ≤ 64 → differs_s es ≡ false → cut_of narrow (log_s es) ≡ refused_with 21
  same_s h d = cut_same narrow (log_s es) readable (rw holding.records h) (ap (differing narrow (block_at (log_s es) 0)) holding.records ∙ says es ∙ d)

  pub keeps_s : length es ≤ 64 → differs_s es ≡ true → cut_of narrow (log_s es) ≡ keeps (cut_down (λ sel. differs_s (chosen sel es)) (length es))
  keeps_s h d =
      cut_keeps narrow (log_s es) readable (rw holding.records h) (ap (differing narrow (block_at (log_s es) 0)) holding.records ∙ says es ∙ d)
      ∙ rw holding.records (ap (λ f. keeps (cut_down f (length es))) tests)
