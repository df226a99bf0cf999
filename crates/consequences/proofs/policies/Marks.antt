-- The profile mark of a log: one of 0 gives document 01's block 0, and one that no profile has ends the log at block 0.
use mathlib.Core.Path.{◌≡◌, refl, sym, ap, ◌∙◌}
use mathlib.Core.Logic.{◌≢◌}
use mathlib.Core.List.{List}
use mathlib.Core.Bool.{Bool, true, false, ◌&&◌}
use Prim.Native.Nat.{ℕ, zero, suc, ◌+◌, ◌/◌, ◌≤◌}
use native.Mathlib.Omega.{arith}
use lib.Dec.{eqb}
use lib.ListN.{length, get_or}
use borrow.Author.Tests.{le-ltb, ne_eqb}
use Rattle.rules.specs.declared.Setting.{Setting}
use Rattle.rules.specs.declared.Limits.{Limits}
use Rattle.rules.specs.Cells.{every}
use Rattle.rules.specs.Answers.{none, short_buffer, refusal_number, refuse}
use Rattle.rules.specs.Setting.{setting_refusal}
use Rattle.rules.specs.State.{State, too_short}
use Rattle.rules.specs.Policy.{Policy}
use Rattle.rules.specs.Calls.{setup_refusal}
use Rattle.rules.proofs.Tests.{and_true, and_assoc, every_same}
use Rattle.rules.proofs.Accept.{number_none, first_refusal}
use Rattle.profiles.proofs.Refusals.{keeps_limits}
use Rattle.log_format.specs.Bytes.{little, zeros, block_at}
use Rattle.log_format.specs.Refusals.{model, bad_contents}
use Rattle.log_format.specs.Contents.{count_in, mark_in, setting_in, seeds_in}
use Rattle.log_format.specs.Blocks.{checked, start_laid_out, laid_out, block_refusal}
use Rattle.log_format.specs.Verdict.{Verdict, refused_after, over, memory, judge_start, judge_sound, judge_block, judge_blocks, unread, verdict}
use Rattle.log_format.proofs.Judged.{block_sound}
use Rattle.log_format.proofs.Agrees.{blocks_first}
use Rattle.consequences.specs.policies.Claims.{start_laid_out01, WrittenBefore, OtherMarkInLog, SettingRefused}

-- ---- the first of a row of tests by itself

every_first : (n : ℕ) (p : ℕ → Bool) → every (suc n) p ≡ (p 0 && every n (λ i. p (suc i)))
every_first zero p = sym (and_true (p 0))
every_first (suc n) p = ap (λ (b : Bool). b && p (suc n)) (every_first n p) ∙ and_assoc (p 0) (every n (λ i. p (suc i))) (p (suc n))

zeros_first : (s : List ℕ) (k n : ℕ) → zeros s k (suc n) ≡ (eqb (get_or s k 0) 0 && zeros s (suc k) n)
unfolding zeros
zeros_first s k n = rw (every_first n (λ i. eqb (get_or s (k + i) 0) 0), every_same n _ _ (λ i h. next i), start)
  where
    next : (i : ℕ) → eqb (get_or s (k + suc i) 0) 0 ≡ eqb (get_or s (suc k + i) 0) 0
    next i = let e : k + suc i ≡ suc k + i = omega arith in rw e

    start : eqb (get_or s (k + 0) 0) 0 ≡ eqb (get_or s k 0) 0
    start = let e : k + 0 ≡ k = omega arith in rw e

-- ---- a mark of 0

layout : (s : List ℕ) → mark_in s ≡ 0 → start_laid_out s ≡ start_laid_out01 s
unfolding start_laid_out
layout s e = rw (zeros_first s 172 335, e, and_true (eqb (count_in s) 0))

pub written_before : WrittenBefore
unfolding setting_in
written_before = record { layout = layout; setting = λ s e. rw e; refusals = λ m s seeds e. keeps_limits m (setting_in s) seeds e }

-- ---- block 0

-- the verdict of a log with a block is that of its first block, where this ends it
first_block : (p : Policy) (bytes : List ℕ) → 1 ≤ length bytes / 512 → (v : Verdict)
    → judge_block p (unread p.limits) (block_at bytes 0) ≡ over v → verdict p bytes ≡ v
unfolding verdict judge_blocks
first_block p bytes some v e = rw (blocks_first p bytes 0 (length bytes / 512) some, e)

and_false : (b : Bool) → (b && false) ≡ false
and_false true = refl
and_false false = refl

-- a mark that no profile has
mark_refused : (s : List ℕ) → checked s ≡ true → 2 ≤ mark_in s → block_refusal s 0 0 ≡ bad_contents
unfolding start_laid_out laid_out block_refusal
mark_refused s c h = rw (c, le-ltb (mark_in s) 2 h, and_false (eqb (count_in s) 0), and_false (eqb (little s 0 4) 0 && zeros s 5 3))

pub other_mark_in_log : (p : Policy) → OtherMarkInLog p
unfolding unread judge_block
other_mark_in_log p bytes some c h = first_block p bytes some (refused_after bad_contents 0) (rw (mark_refused (block_at bytes 0) c h))

-- a sound block 0 with a setting that is refused
setup_refused : (m : Limits) (s : Setting) (seeds : List ℕ) (st : State) → setting_refusal m s seeds ≢ none → setup_refusal m s seeds st ≡ setting_refusal m s seeds
unfolding setup_refusal
setup_refused m s seeds st h =
    first_refusal (λ x. x ≡ setting_refusal m s seeds) (setting_refusal m s seeds) (refuse (too_short s st) short_buffer none) (λ e. absurd (h e)) (λ k. refl)

pub setting_refused : (p : Policy) → SettingRefused p
unfolding unread judge_sound judge_start
setting_refused p bytes some b h =
    let s = block_at bytes 0 in
    let r = setting_refusal p.limits (setting_in s) (seeds_in s) in
    first_block p bytes some (refused_after (model r) 0)
    (block_sound p (unread p.limits) s b
    ∙ rw (setup_refused p.limits (setting_in s) (seeds_in s) (memory p.limits) h, ne_eqb (refusal_number r) 0 (λ z. h (number_none r z))))
