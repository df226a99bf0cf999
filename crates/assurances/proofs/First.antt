-- After set-up, a first request with bank and thread of the setting and a tick below 2^62 is opened, with N − 1 openings left.
use mathlib.Core.Path.{◌≡◌, refl, ap, ◌∙◌}
use mathlib.Core.List.{List}
use mathlib.Core.Bool.{Bool, true, false, not, ◌&&◌}
use Prim.Native.Nat.{ℕ, ◌+◌, ◌-◌, ◌/◌, ◌%◌, ◌^◌, ◌≤◌, ◌<◌}
use native.Mathlib.Omega.{arith}
use lib.Dec.{T, ltb, lt→ltb}
use lib.Arith.{lt→nleb}
use borrow.Author.Tests.{lt-leb, le-ltb}
use lib.ListN.{get_or, get_or-replicate}
use Rattle.head.specs.Head.{moved_head}
use Rattle.rules.specs.declared.Setting.{Setting}
use Rattle.rules.specs.declared.Limits.{Limits}
use Rattle.rules.specs.declared.Answer.TheVariants.{Opened}
use Rattle.rules.specs.Cells.{clear_cells}
use Rattle.rules.specs.Answers.{none, short_buffer, refuse}
use Rattle.rules.specs.Setting.{setting_refusal}
use Rattle.rules.specs.State.{State, counters_used, threads_used, counter_cell, thread_cell, too_short, fresh_head, fresh}
use Rattle.rules.specs.Clock.{epoch, clears, active_filter, turned_counters, turned_threads, turned}
use Rattle.rules.specs.Hash.{places}
use Rattle.rules.specs.Filter.{Within, estimate, blacklisted}
use Rattle.rules.specs.History.{memory_ok}
use Rattle.rules.specs.Policy.{Policy}
use Rattle.rules.specs.Decision.{quota_rule, bank_rule, rank_rule, active_estimate, row_rule, decide, activated, openings_left}
use Rattle.rules.specs.Calls.{answered, setup_refusal, call_refusal, unless_refused, requested, step}
use Rattle.assurances.specs.Claims.{Regular, FirstOpened}
use Rattle.rules.proofs.Tests.{or_l, is_true, holds, fails}
use Rattle.rules.proofs.Cells.{thread_in}
use Rattle.rules.proofs.Clearing.{clear_zero, clear_kept}
use Rattle.rules.proofs.Accept.{set_up_lem, or_else_none}
use Rattle.rules.specs.Tested.{SetUp}
use Rattle.rules.proofs.Places.{places_within}
use Rattle.rules.proofs.Memory.{memory_ok_lem, turned_long}
use Rattle.rules.proofs.Sound.{fresh_sound, long_not_short}
use Rattle.rules.proofs.Left.{left_after}

-- a cell that is 0 stays 0 when cells are cleared
still_zero : (p : ℕ → Bool) (j : ℕ) (cs : List ℕ) → get_or cs j 0 ≡ 0 → get_or (clear_cells p cs) j 0 ≡ 0
still_zero p j cs z = go (p j) refl
  where
    go : (q : Bool) → p j ≡ q → get_or (clear_cells p cs) j 0 ≡ 0
    go true e = clear_zero p j cs (holds (p j) e)
    go false e = clear_kept p j cs (fails (p j) e) ∙ z

module _ (p : Policy) (reg : Regular p) (s : Setting) (seeds : List ℕ) (before : State) (up : SetUp p.limits s seeds before) (t b th r : ℕ) (bh : b < s.banks) (thh : th < s.threads) where
  abbrev at : ℕ → List ℕ
  at f = places seeds r

  abbrev st : State
  st = turned s (fresh s before) t

  counter_zero : (f h : ℕ) → f < 2 → h < 1024 → get_or st.counters (counter_cell b f h) 0 ≡ 0
  unfolding turned turned_counters fresh fresh_head
  counter_zero f h f2 h2 =
      still_zero (λ i. ltb i (counters_used s) && clears (epoch s 0) (epoch s t) (i / 1024 % 2)) (counter_cell b f h) (clear_cells (λ i. ltb i (counters_used s)) before.counters)
      (clear_zero (λ i. ltb i (counters_used s)) (counter_cell b f h) before.counters (lt→ltb (counter_cell b f h) (counters_used s) (omega arith)))

  thread_zero : (i : ℕ) → i < threads_used s → get_or st.threads i 0 ≡ 0
  unfolding turned turned_threads fresh fresh_head
  thread_zero i h =
      still_zero (λ j. ltb j (threads_used s) && (ltb (j % 3) 2 && clears (epoch s 0) (epoch s t) (j % 3))) i (clear_cells (λ j. ltb j (threads_used s)) before.threads)
      (clear_zero (λ j. ltb j (threads_used s)) i before.threads (lt→ltb i (threads_used s) h))

  quota_passes : T (quota_rule p s st b th)
  quota_passes =
      let f = active_filter s st.head.last in
      rw (reg.none_flying s st.threads b th bh thh thread_zero, thread_zero (thread_cell s b th f) (thread_in s b th f bh thh (omega arith)))
      (lt→ltb 0 (p.quota s 0) (reg.quota_first s seeds up.setting))

  bank_passes : T (bank_rule s st b)
  unfolding turned moved_head fresh fresh_head
  bank_passes = rw (get_or-replicate {A = ℕ} 16 b 0 0 (omega (arith, up.setting.ranges.banks_high))) tt

  rank_passes : T (rank_rule s st)
  unfolding turned moved_head fresh fresh_head
  rank_passes = tt

  estimate_zero : active_estimate s at st b ≡ 0
  unfolding estimate
  estimate_zero = low (active_filter s st.head.last) (omega arith) (places_within seeds up.setting.seeds_ok r)
    where
      low : (f : ℕ) → f < 2 → Within (places seeds r) → estimate st.counters b f (places seeds r) ≡ 0
      low f f2 w = omega (arith, counter_zero f (get_or (places seeds r) 0 0) f2 w.first)

  row_passes : T (row_rule s at st b r)
  row_passes =
      or_l (not (blacklisted s.n (active_estimate s at st b))) _
      (lt→nleb s.n (active_estimate s at st b) (omega (arith, estimate_zero, up.setting.ranges.n_low)))

  one_used : openings_left s at (activated s at st b th r) b ≡ s.n - 1
  one_used =
      left_after s (λ f. seeds) (λ f f2. up.setting.seeds_ok) st b th r bh (turned_long s (fresh s before) t (fresh_sound p.limits s seeds before up).long).counters
      ∙ ap (λ e. s.n - (e + 1)) estimate_zero

-- ---- the call

fresh_start : (s : Setting) (before : State) (t : ℕ) → (fresh s before).head.last ≤ t
unfolding fresh fresh_head
fresh_start s before t = omega arith

free_refusal : (m : Limits) (s : Setting) (seeds : List ℕ) (before : State) → setup_refusal m s seeds before ≡ none
    → (t b th : ℕ) → t < 2 ^ 62 → b < s.banks → th < s.threads → call_refusal m s seeds (fresh s before) t b th ≡ none
unfolding call_refusal setup_refusal
free_refusal m s seeds before e t b th early bh thh =
    let up = set_up_lem m s seeds before e in
    let h = fresh_sound m s seeds before up in
    rw (
      (or_else_none (setting_refusal m s seeds) (refuse (too_short s before) short_buffer none) e).0,
      long_not_short s (fresh s before) h.long,
      is_true (memory_ok s (fresh s before)) (memory_ok_lem s (fresh s before) h.ok),
      lt-leb s.banks b bh,
      lt-leb s.threads th thh,
      le-ltb t (fresh s before).head.last (fresh_start s before t),
      lt-leb (2 ^ 62) t early,
    )

pub first_opened : (p : Policy) → Regular p → FirstOpened p
unfolding step unless_refused requested decide
first_opened p reg s seeds before e t b th r early bh thh =
    let up = set_up_lem p.limits s seeds before e in
    let at : ℕ → List ℕ = λ f. places seeds r in
    let st = turned s (fresh s before) t in
    rw (
      free_refusal p.limits s seeds before e t b th early bh thh,
      is_true (quota_rule p s st b th) (quota_passes p reg s seeds before up t b th r bh thh),
      is_true (bank_rule s st b) (bank_passes p reg s seeds before up t b th r bh thh),
      is_true (rank_rule s st) (rank_passes p reg s seeds before up t b th r bh thh),
      is_true (row_rule s at st b r) (row_passes p reg s seeds before up t b th r bh thh),
    )
    (ap (λ n. answered (Opened n)) (one_used p reg s seeds before up t b th r bh thh))
