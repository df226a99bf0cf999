-- The verdict `agrees`: given to a well-formed log of the rules' decisions under an accepted setting, and to no other.
use mathlib.Core.Path.{◌≡◌, refl, sym, ap, ◌∙◌}
use mathlib.Core.List.{List, ◌∷◌}
use mathlib.Core.Bool.{Bool, true, false, cond}
use Prim.Native.Nat.{ℕ, zero, suc, ◌-◌, ◌*◌, ◌/◌, ◌%◌, ◌≤◌}
use native.Mathlib.Omega.{arith}
use native.Mathlib.Nat.{mul-le-mul}
use lib.Dec.{eqb}
use lib.ListN.{length, length-replicate}
use borrow.Author.Tests.{eq-eqb, eqb-true, le-ltb}
use Rattle.rules.specs.declared.Setting.{Setting}
use Rattle.rules.specs.Answers.{Refusal, none, refusal_number}
use Rattle.rules.specs.Setting.{setting_refusal, history_length}
use Rattle.rules.specs.State.{State, too_short}
use Rattle.rules.specs.declared.Limits.{Limits}
use Rattle.rules.specs.Policy.{Policy}
use Rattle.rules.specs.Calls.{setup_refusal}
use Rattle.rules.proofs.Accept.{accepted, number_none, or_else_none}
use Rattle.rules.specs.Tested.{Accepted}
use Rattle.log_format.specs.Bytes.{block_at, blocks_from}
use Rattle.log_format.specs.Refusals.{model, sound, cut}
use Rattle.log_format.specs.Contents.{setting_in, seeds_in}
use Rattle.log_format.specs.Blocks.{block_refusal}
use Rattle.log_format.specs.Verdict.{agrees, refused_after, judged, Running, Step, over, on, memory, set_up, judge_start, judge_sound, judge_block, verdict_of, judge_blocks, unread, verdict}
use Rattle.log_format.specs.Claims.{later_of, setting_of_log, seeds_of_log, records_of, rules_open, WellFormed, Faithful, OnlyIf, Whenever}
use Rattle.log_format.proofs.Records.{not_over, same_on}
use Rattle.log_format.proofs.Judged.{never_agrees, over_agrees, judged_same, block_sound, sound_block, agreeing_judged, judged_agreeing, never_partial}

-- ---- set-up in the checker's memory

-- the memory is long enough for every accepted setting
pub memory_long : (m : Limits) (s : Setting) (seeds : List ℕ) → Accepted m s seeds → too_short s (memory m) ≡ false
unfolding too_short memory
memory_long m s seeds ok =
    let c : s.banks * 2048 ≤ 32768 = omega (arith, ok.ranges.banks_high) in
    let k : s.banks * s.threads ≤ 512 = mul-le-mul {n₂ = 16} {m₂ = 32} ok.ranges.banks_high ok.ranges.threads_high in
    let t : s.banks * s.threads * 3 ≤ 1536 = omega arith in
    rw (length-replicate {A = ℕ} m.history 0, le-ltb 32768 (s.banks * 2048) c, le-ltb m.history (history_length s) ok.short, le-ltb 1536 (s.banks * s.threads * 3) t)

-- so set-up refuses what the rules refuse of the setting, and 6 never
pub setup_accepts : (m : Limits) (s : Setting) (seeds : List ℕ) → setting_refusal m s seeds ≡ none → setup_refusal m s seeds (memory m) ≡ none
unfolding setup_refusal
setup_accepts m s seeds e = rw (e, memory_long m s seeds (accepted m s seeds e))

pub accepts_setup : (m : Limits) (s : Setting) (seeds : List ℕ) (st : State) → setup_refusal m s seeds st ≡ none → setting_refusal m s seeds ≡ none
unfolding setup_refusal
accepts_setup m s seeds st e = (or_else_none (setting_refusal m s seeds) _ e).0

module _ (p : Policy) where
  -- ---- block 0

  start_on : (s : List ℕ) → block_refusal s 0 0 ≡ sound → setting_refusal p.limits (setting_in s) (seeds_in s) ≡ none
      → judge_block p (unread p.limits) s ≡ on (set_up (setting_in s) (seeds_in s) (memory p.limits))
  unfolding unread judge_sound judge_start
  start_on s b e = block_sound p (unread p.limits) s b ∙ rw (setup_accepts p.limits (setting_in s) (seeds_in s) e)

  on_start : (s : List ℕ) (y : Running) → judge_block p (unread p.limits) s ≡ on y
      → (block_refusal s 0 0 ≡ sound) × (setting_refusal p.limits (setting_in s) (seeds_in s) ≡ none) × (set_up (setting_in s) (seeds_in s) (memory p.limits) ≡ y)
  unfolding unread judge_sound judge_start
  on_start s y k =
      let b = sound_block p (unread p.limits) s y k in
      let g = go (eqb (refusal_number r) 0) refl b.1 in
      (b.0, accepts_setup p.limits (setting_in s) (seeds_in s) (memory p.limits) g.0, g.1)
    where
      r : Refusal
      r = setup_refusal p.limits (setting_in s) (seeds_in s) (memory p.limits)

      go : (q : Bool) → eqb (refusal_number r) 0 ≡ q → cond q (on (set_up (setting_in s) (seeds_in s) (memory p.limits))) (over (refused_after (model r) 0)) ≡ on y
          → (r ≡ none) × (set_up (setting_in s) (seeds_in s) (memory p.limits) ≡ y)
      go true e j = (number_none r (eqb-true (refusal_number r) 0 e), same_on _ y j)
      go false e j = absurd (not_over _ y j)

  -- ---- the whole log

  pub blocks_first : (bytes : List ℕ) (b n : ℕ) → 1 ≤ n → blocks_from bytes b n ≡ block_at bytes b ∷ blocks_from bytes (suc b) (n - 1)
  blocks_first bytes b zero h = absurd (omega arith)
  blocks_first bytes b (suc n) h = let e : suc n - 1 ≡ n = omega arith in rw e

  -- the verdict by block 0 and the later blocks
  pub by_start : (bytes : List ℕ) → length bytes % 512 ≡ 0 → 1 ≤ length bytes / 512
      → verdict p bytes ≡ verdict_of (judge_block p (unread p.limits) (block_at bytes 0)) (λ (y : Running). judge_blocks p y (later_of bytes) true)
  unfolding verdict judge_blocks
  by_start bytes w n = rw (blocks_first bytes 0 (length bytes / 512) n, eq-eqb (length bytes % 512) 0 w)

  -- the verdict of a well-formed log under an accepted setting is that of its later blocks, from set-up
  pub by_later : (bytes : List ℕ) → WellFormed bytes → setting_refusal p.limits (setting_of_log bytes) (seeds_of_log bytes) ≡ none
      → verdict p bytes ≡ judge_blocks p (set_up (setting_of_log bytes) (seeds_of_log bytes) (memory p.limits)) (later_of bytes) true
  by_later bytes w ok =
      by_start bytes w.whole w.some
      ∙ ap (λ (t : Step). verdict_of t (λ (y : Running). judge_blocks p y (later_of bytes) true)) (start_on (block_at bytes 0) w.start ok)

  pub whenever : Whenever p
  whenever bytes f =
      let x = set_up (setting_of_log bytes) (seeds_of_log bytes) (memory p.limits) in
      by_later bytes f.well_formed f.accepted
      ∙ agreeing_judged p x (later_of bytes) (omega arith) (record { blocks = f.well_formed.later; records = f.decided })
      ∙ judged_same _ _ _ _ (omega arith) (omega arith)

  -- what a log that agrees has: it is whole, it has a block, and block 0 sets the model up
  whole_log : (bytes : List ℕ) (r o : ℕ) → verdict p bytes ≡ judged r o agrees → length bytes % 512 ≡ 0
  unfolding verdict
  whole_log bytes r o h = go (eqb (length bytes % 512) 0) refl h
    where
      go : (q : Bool) → eqb (length bytes % 512) 0 ≡ q → judge_blocks p (unread p.limits) (blocks_from bytes 0 (length bytes / 512)) q ≡ judged r o agrees → length bytes % 512 ≡ 0
      go true e k = eqb-true (length bytes % 512) 0 e
      go false e k = absurd (never_partial p (unread p.limits) (blocks_from bytes 0 (length bytes / 512)) r o k)

  some_block : (bytes : List ℕ) (r o : ℕ) → verdict p bytes ≡ judged r o agrees → length bytes % 512 ≡ 0 → 1 ≤ length bytes / 512
  unfolding verdict judge_blocks unread
  some_block bytes r o h w = go (length bytes / 512) (rw (eq-eqb (length bytes % 512) 0 w) at h)
    where
      go : (n : ℕ) → judge_blocks p (unread p.limits) (blocks_from bytes 0 n) true ≡ judged r o agrees → 1 ≤ n
      go zero k = absurd (never_agrees (refused_after cut 0) r o tt k)
      go (suc n) k = omega arith

  pub only_if : OnlyIf p
  only_if bytes r o h = go (judge_block p (unread p.limits) (block_at bytes 0)) refl (sym (by_start bytes w n) ∙ h)
    where
      w : length bytes % 512 ≡ 0
      w = whole_log bytes r o h

      n : 1 ≤ length bytes / 512
      n = some_block bytes r o h w

      go : (t : Step) → judge_block p (unread p.limits) (block_at bytes 0) ≡ t → verdict_of t (λ (y : Running). judge_blocks p y (later_of bytes) true) ≡ judged r o agrees
          → Faithful p bytes × (r ≡ length (records_of bytes)) × (o ≡ rules_open p (setting_of_log bytes) (seeds_of_log bytes) (records_of bytes))
      go (over v) e k = absurd (over_agrees p (unread p.limits) (block_at bytes 0) v r o e k)
      go (on y) e k =
          let s = on_start (block_at bytes 0) y e in
          let x = set_up (setting_of_log bytes) (seeds_of_log bytes) (memory p.limits) in
          let j = judged_agreeing p x (later_of bytes) r o (omega arith) (ap (λ (z : Running). judge_blocks p z (later_of bytes) true) s.2 ∙ k) in (
            record {
              well_formed = record { whole = w; some = n; start = s.0; later = j.0.blocks };
              accepted = s.1;
              decided = j.0.records;
            },
            j.1 ∙ omega arith,
            j.2 ∙ omega arith,
          )
