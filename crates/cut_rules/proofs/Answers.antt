-- The number that is left, and the selection that it says.
use mathlib.Core.Path.{◌≡◌, refl, sym, ap, ap₂, ◌∙◌}
use mathlib.Core.List.{List, [], ◌∷◌}
use mathlib.Core.Bool.{Bool, true, false, not, cond}
use Prim.Native.Nat.{ℕ, ◌/◌, ◌%◌, ◌^◌, ◌≤◌}
use native.Mathlib.Omega.{arith}
use lib.Pow.{pow_mono}
use lib.Dec.{T, eqb}
use lib.ListN.{length, get_or, replicate}
use Rattle.rules.specs.Answers.{refusal_number}
use Rattle.rules.specs.Policy.{Policy}
use Rattle.rules.specs.Calls.{setup_refusal}
use Rattle.rules.proofs.Tests.{holds}
use Rattle.log_format.specs.declared.Entry.{Entry}
use Rattle.log_format.specs.Bytes.{block_at}
use Rattle.log_format.specs.Refusals.{LogRefusal, model}
use Rattle.log_format.specs.Contents.{setting_in, seeds_in}
use Rattle.log_format.specs.Verdict.{refused_after, Running, over, on, and_then, judge_records, set_up, judge_start, unread}
use Rattle.log_format.specs.Claims.{records_of}
use Rattle.cut_rules.specs.selections.Selections.{kept, chosen, cut_down, word, bits}
use Rattle.cut_rules.proofs.selections.Words.{word_bit, word_below, bits_word}
use Rattle.cut_rules.proofs.selections.Chosen.{old_order, chosen_all}
use Rattle.cut_rules.proofs.selections.Results.{passes_end, end_alone, result_length, answer_some}
use Rattle.cut_rules.specs.Cut.{judgement, says_differs, differing, differs_with, cut_of, code_of, out_of}
use Rattle.cut_rules.specs.Claims.{Answer, selected_by, BitsSay, PassesEnd, OldOrder}
use Rattle.cut_rules.proofs.Codes.{cut_keeps, Kept, code_kept}

-- ---- where no record stays, nothing differs

chosen_few : {A : Type 0} (sel : List Bool) (rs : List A) → kept sel ≡ 0 → chosen sel rs ≡ []
chosen_few [] rs e = refl
chosen_few (b ∷ sel) [] e = refl
chosen_few (true ∷ sel) (r ∷ rs) e = absurd (omega arith)
chosen_few (false ∷ sel) (r ∷ rs) e = chosen_few sel rs e

-- set-up alone is refused, or has no event
set_up_says : (b : Bool) (x : Running) (r : LogRefusal) → says_differs (and_then (cond b (on x) (over (refused_after r 0))) (λ (y : Running). on y)) ≡ false
set_up_says true x r = refl
set_up_says false x r = refl

pub none_differ : (p : Policy) (start : List ℕ) → differing p start [] ≡ false
unfolding differing judgement judge_start judge_records
none_differ p start =
    let r = setup_refusal p.limits (setting_in start) (seeds_in start) (unread p.limits).state in
    set_up_says (eqb (refusal_number r) 0) (set_up (setting_in start) (seeds_in start) (unread p.limits).state) (model r)

few_differ : (p : Policy) (bytes : List ℕ) (sel : List Bool) → kept sel ≡ 0 → T (not (differs_with p bytes sel))
few_differ p bytes sel e = holds _ (ap (λ es. not (differing p (block_at bytes 0) es)) (chosen_few sel (records_of bytes) e) ∙ ap not (none_differ p (block_at bytes 0)))

-- where all stay, the records of the log do or do not
all_differ : (p : Policy) (bytes : List ℕ) → differs_with p bytes (replicate (length (records_of bytes)) true) ≡ differing p (block_at bytes 0) (records_of bytes)
all_differ p bytes = ap (differing p (block_at bytes 0)) (chosen_all (records_of bytes))

-- ---- the selection of an answer

module _ (p : Policy) (bytes : List ℕ) where
  abbrev result : List Bool
  result = cut_down (differs_with p bytes) (length (records_of bytes))

  pub one_number : code_of (cut_of p bytes) ≡ 0 → (m : ℕ) × Answer p bytes m
  one_number c =
      let k = code_kept p bytes c in
      (word result, record { code = c; out = λ before. ap (λ x. out_of x before) (cut_keeps p bytes k.readable k.few k.differs) })

  pub record Selected (m : ℕ) : Type 0 where
    pub kept : Kept p bytes
    pub number : m ≡ word result
    pub selection : selected_by bytes m ≡ result

  pub selected : (m : ℕ) → Answer p bytes m → Selected m
  selected m a =
      let k = code_kept p bytes a.code in
      let o : m ∷ [] ≡ word result ∷ [] = sym (a.out []) ∙ ap (λ x. out_of x []) (cut_keeps p bytes k.readable k.few k.differs) in
      let e : m ≡ word result = ap (λ l. get_or l 0 0) o in
      record {
        kept = k;
        number = e;
        selection = ap₂ bits (sym (result_length (differs_with p bytes) (length (records_of bytes)))) e ∙ bits_word result;
      }

-- ---- the claims

pub bits_say : (p : Policy) → BitsSay p
bits_say p bytes m a =
    let s = selected p bytes m a in
    let n = length (records_of bytes) in
    let differs = differs_with p bytes in
    let some = answer_some differs n (few_differ p bytes) (holds _ (all_differ p bytes ∙ s.kept.differs)) in
    let below = word_below (cut_down differs n) in
    let top : 2 ^ length (cut_down differs n) ≤ 2 ^ 64 = pow_mono {i = length (cut_down differs n)} {j = 64} (omega (arith, result_length differs n, s.kept.few)) in (
      λ i. rw s.selection (ap (λ k. eqb (k / 2 ^ i % 2) 1) s.number ∙ word_bit (cut_down differs n) i),
      omega (arith, s.number),
      omega (arith, s.number),
    )

pub passes_come : (p : Policy) → PassesEnd p
passes_come p bytes m a =
    let s = selected p bytes m a in
    let n = length (records_of bytes) in
    let e = passes_end (differs_with p bytes) n in
    rw s.selection (e, λ k r t. end_alone (differs_with p bytes) n k r t)

pub in_order : (p : Policy) → OldOrder p
in_order p bytes m a = old_order Entry (selected_by bytes m) (records_of bytes)
