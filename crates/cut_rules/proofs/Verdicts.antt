-- The checker's verdict of a well-formed log says `differs` exactly where its records differ.
use mathlib.Core.Path.{◌≡◌, refl, sym, ap, ◌∙◌}
use mathlib.Core.List.{List, [], ◌∷◌, ◌++◌}
use mathlib.Core.Bool.{Bool, true, false, cond}
use Prim.Native.Nat.{ℕ, ◌+◌, ◌≤◌}
use native.Mathlib.Omega.{arith}
use lib.Dec.{eqb}
use borrow.Author.Tests.{ne_eqb}
use Rattle.rules.specs.Answers.{Refusal, refusal_number}
use Rattle.rules.specs.Policy.{Policy}
use Rattle.rules.specs.Calls.{setup_refusal}
use Rattle.log_format.specs.Refusals.{model}
use Rattle.log_format.specs.Bytes.{block_at}
use Rattle.log_format.specs.Contents.{setting_in, seeds_in, entries_in}
use Rattle.log_format.specs.Verdict.{Verdict, refused_after, Running, Step, over, on, and_then, judge_records, memory, next_block, none_counted, set_up, judge_start, judge_later, judge_sound, verdict_of, judge_blocks, unread, verdict}
use Rattle.log_format.specs.Claims.{later_of, entries_of, records_of, SoundFrom, WellFormed}
use Rattle.log_format.proofs.Records.{on_records}
use Rattle.log_format.proofs.Judged.{block_sound, next}
use Rattle.log_format.proofs.Agrees.{by_start}
use Rattle.cut_rules.specs.Cut.{judgement, is_differs, says_differs, differing}
use Rattle.cut_rules.proofs.Runs.{same_differs, records_append}

module _ (p : Policy) where
  -- ---- later blocks

  later_block : (x : Running) (s : List ℕ) → 1 ≤ x.progress.blocks → judge_sound p x s ≡ and_then (judge_records p (none_counted x) (entries_in s)) (λ (y : Running). on (next_block y))
  unfolding judge_sound judge_later
  later_block x s h = let n : x.progress.blocks ≡ 0 → ⊥ = λ z. omega arith in rw (ne_eqb x.progress.blocks 0 n)

  blocks_differ : (x : Running) (ss : List (List ℕ)) → 1 ≤ x.progress.blocks → SoundFrom x.progress.blocks x.progress.last ss
      → is_differs (judge_blocks p x ss true) ≡ says_differs (judge_records p x (entries_of ss))
  unfolding judge_blocks judge_records
  blocks_differ x [] h ok = let n : x.progress.blocks ≡ 0 → ⊥ = λ z. omega arith in rw (ne_eqb x.progress.blocks 0 n)
  blocks_differ x (s ∷ ss) h ok =
      ap (λ (t : Step). is_differs (verdict_of t rest)) (block_sound p x s ok.0 ∙ later_block x s h)
      ∙ go (judge_records p (none_counted x) (entries_in s)) refl (λ y a b. blocks_differ (next_block y) ss a b)
      ∙ ap says_differs (sym (records_append p (none_counted x) (entries_in s) (entries_of ss)))
      ∙ same_differs p (none_counted x) x (entries_in s ++ entries_of ss) refl
    where
      rest : Running → Verdict
      rest y = judge_blocks p y ss true

      go : (t : Step) → judge_records p (none_counted x) (entries_in s) ≡ t
          → ((y : Running) → 1 ≤ y.progress.blocks + 1 → SoundFrom (y.progress.blocks + 1) y.progress.last ss
          → is_differs (judge_blocks p (next_block y) ss true) ≡ says_differs (judge_records p (next_block y) (entries_of ss)))
          → is_differs (verdict_of (and_then t (λ (y : Running). on (next_block y))) (λ (y : Running). judge_blocks p y ss true))
          ≡ says_differs (and_then t (λ (y : Running). judge_records p y (entries_of ss)))
      go (over v) e ih = refl
      go (on y) e ih =
          let n = next p x s in
          let same = ap next_block (on_records p (none_counted x) (entries_in s) y e).1 in
          let blocks : y.progress.blocks + 1 ≡ x.progress.blocks + 1 = ap (λ (z : Running). z.progress.blocks) (sym same) ∙ n.blocks in
          let last : y.progress.last ≡ _ = ap (λ (z : Running). z.progress.last) (sym same) ∙ n.last in
          ih y (omega arith) (rw (blocks, last) ok.1) ∙ same_differs p (next_block y) y (entries_of ss) refl

  -- ---- the whole log

  abbrev set_refusal : List ℕ → Refusal
  set_refusal s = setup_refusal p.limits (setting_in s) (seeds_in s) (memory p.limits)

  start_sound : (s : List ℕ) → judge_sound p (unread p.limits) s ≡ judge_start p (unread p.limits) s
  unfolding judge_sound unread
  start_sound s = refl

  pub verdict_differs : (bytes : List ℕ) → WellFormed bytes → is_differs (verdict p bytes) ≡ differing p (block_at bytes 0) (records_of bytes)
  unfolding differing judgement judge_start unread
  verdict_differs bytes w =
      ap is_differs (by_start p bytes w.whole w.some)
      ∙ ap (λ (t : Step). is_differs (verdict_of t (λ (y : Running). judge_blocks p y (later_of bytes) true))) (block_sound p (unread p.limits) (block_at bytes 0) w.start ∙ start_sound (block_at bytes 0))
      ∙ go (eqb (refusal_number (set_refusal (block_at bytes 0))) 0)
    where
      x : Running
      x = set_up (setting_in (block_at bytes 0)) (seeds_in (block_at bytes 0)) (memory p.limits)

      go : (b : Bool)
          → is_differs (verdict_of (cond b (on x) (over (refused_after (model (set_refusal (block_at bytes 0))) 0))) (λ (y : Running). judge_blocks p y (later_of bytes) true))
          ≡ says_differs (and_then (cond b (on x) (over (refused_after (model (set_refusal (block_at bytes 0))) 0))) (λ (y : Running). judge_records p y (records_of bytes)))
      go true = blocks_differ x (later_of bytes) (omega arith) w.later
      go false = refl
