-- The refusals of the change-over, what it leaves, and that a state of a list is taken over.
use mathlib.Core.Path.{◌≡◌, refl, sym, ap, ◌∙◌}
use mathlib.Core.Logic.{◌≢◌}
use mathlib.Core.List.{List, [], ◌∷◌}
use mathlib.Core.Bool.{Bool, true, false, ◌||◌, cond}
use Prim.Native.Nat.{ℕ, ◌+◌, ◌^◌, ◌≤◌, ◌<◌}
use native.Mathlib.Omega.{arith}
use lib.Dec.{ltb, eqb, eqb→eq, nltb→le, not_T}
use lib.ListN.{length, get_or}
use borrow.Author.Tests.{lt-ltb, le-ltb}
use Rattle.rules.specs.declared.Setting.{Setting}
use Rattle.rules.specs.Cells.{All}
use Rattle.rules.specs.Answers.{Refusal, none, short_buffer, refusal_number}
use Rattle.rules.specs.Setting.{setting_refusal}
use Rattle.rules.specs.State.{State, counters_used, too_short, fresh}
use Rattle.rules.specs.History.{memory_ok}
use Rattle.rules.specs.Policy.{limits01, narrow}
use Rattle.rules.specs.Tested.{Long, Sound}
use Rattle.rules.specs.Calls.{Call, setup_refusal, step, after}
use Rattle.assurances.specs.Claims.{SameFrom, Fits}
use Rattle.rules.proofs.Tests.{holds, fails, is_true, is_false, or_true, not_or}
use Rattle.rules.proofs.Cells.{length_map_cells, get_or_map_cells, get_d_kept, all_map_from}
use Rattle.rules.proofs.Accept.{number_none, not_zero, or_else_none, refuse_none, first_refusal, long_enough, set_up_lem}
use Rattle.rules.proofs.Memory.{memory_ok_lem}
use Rattle.assurances.proofs.Fits.{below_at}
use Rattle.rules.proofs.Sound.{long_not_short, step_sound, fresh_sound}
use Rattle.widths.specs.ChangeOver.{change_over_refusal, copied_cell, copied, taken_over, ChangedOver, changed_over, change_over}
use Rattle.widths.specs.Claims.{Refuses, Leaves, FitsOver, TakenInList}

-- ---- the refusals

pub refuses : (s : Setting) (seeds : List ℕ) (old : State) (new : List ℕ) → Refuses s seeds old new
unfolding change_over_refusal
refuses s seeds old new =
    record {
      setting = λ h. first_refusal (λ r. r ≡ setting_refusal limits01 s seeds) (setting_refusal limits01 s seeds) _ (λ e. absurd (h e)) (λ k. refl);
      old_short = λ e h. rw (e, is_true (too_short s old) h);
      new_short = λ e h. rw (e, lt-ltb (length new) (counters_used s) h, or_true (too_short s old));
      memory = λ e l k h. rw (e, long_not_short s old l, le-ltb (length new) (counters_used s) k, is_false (memory_ok s old) (not_T (memory_ok s old) h));
      taken = λ e l k h. rw (e, long_not_short s old l, le-ltb (length new) (counters_used s) k, is_true (memory_ok s old) h);
    }

-- what a change-over that is not refused can count on
pub record Taken (s : Setting) (seeds : List ℕ) (old : State) (new : List ℕ) : Type 0 where
  pub setting : setting_refusal limits01 s seeds ≡ none
  pub long : Long s old
  pub long_new : counters_used s ≤ length new

pub taken : (s : Setting) (seeds : List ℕ) (old : State) (new : List ℕ) → change_over_refusal s seeds old new ≡ none → Taken s seeds old new
unfolding change_over_refusal
taken s seeds old new e =
    let r5 = or_else_none (setting_refusal limits01 s seeds) _ e in
    let r6 = refuse_none (too_short s old || ltb (length new) (counters_used s)) short_buffer _ (omega arith) r5.1 in
    let n6 = not_or (too_short s old) (ltb (length new) (counters_used s)) r6.0 in
    record { setting = r5.0; long = long_enough s old n6.0; long_new = nltb→le (length new) (counters_used s) n6.1 }

-- ---- what it leaves

module _ (used : ℕ) (old new : List ℕ) where
  copied_used : used ≤ length new → (i : ℕ) → i < used → get_or (copied used old new) i 0 ≡ get_or old i 0
  unfolding copied
  copied_used k i h = get_or_map_cells (copied_cell used old) i new (omega arith) ∙ rw (lt-ltb i used h)

  pub copied_rest : SameFrom used new (copied used old new)
  unfolding copied
  copied_rest = (length_map_cells (copied_cell used old) new, λ i h. get_d_kept (copied_cell used old) 0 i new (λ c. rw (le-ltb (0 + i) used (omega arith))))

  copied_fits : (m : ℕ) → ((i : ℕ) → get_or old i 0 < m) → All (λ c. c < m) new → All (λ c. c < m) (copied used old new)
  unfolding copied
  copied_fits m h a = all_map_from (λ c. c < m) (copied_cell used old) (λ i c k. pick (ltb i used) i c k) 0 new a
    where
      pick : (q : Bool) (i c : ℕ) → c < m → cond q (get_or old i 0) c < m
      pick true i c k = h i
      pick false i c k = k

module _ (s : Setting) (seeds : List ℕ) (old : State) (new : List ℕ) where
  abbrev pub refusal : Refusal
  refusal = change_over_refusal s seeds old new

  -- what holds of the change-over where it is not refused, and where it is, holds of it
  pub by_over : (P : ChangedOver → Type 0) → (refusal ≡ none → P (changed_over 0 (taken_over s old.counters new)))
      → (0 < refusal_number refusal → P (changed_over (refusal_number refusal) new)) → P (change_over s seeds old new)
  unfolding change_over
  by_over P f g = go (eqb (refusal_number refusal) 0) refl
    where
      go : (q : Bool) → eqb (refusal_number refusal) 0 ≡ q → P (cond q (changed_over 0 (taken_over s old.counters new)) (changed_over (refusal_number refusal) new))
      go true e = f (number_none refusal (eqb→eq (refusal_number refusal) 0 (holds (eqb (refusal_number refusal) 0) e)))
      go false e = g (not_zero (refusal_number refusal) (fails (eqb (refusal_number refusal) 0) e))

  pub leaves : Leaves s seeds old new
  leaves =
      record {
        code = by_over (λ l. l.code ≡ refusal_number refusal) (λ e. sym (ap refusal_number e)) (λ k. refl);
        refused = by_over (λ l. l.code ≢ 0 → l.counters ≡ new) (λ e h. absurd (h refl)) (λ k h. refl);
        used = by_over (λ l. l.code ≡ 0 → (i : ℕ) → i < counters_used s → get_or l.counters i 0 ≡ get_or old.counters i 0)
            (λ e z. copied_used (counters_used s) old.counters new (taken s seeds old new e).long_new) (λ k z. absurd (omega arith));
        rest = by_over (λ l. SameFrom (counters_used s) new l.counters) (λ e. copied_rest (counters_used s) old.counters new) (λ k. (refl, λ i h. refl));
      }

pub fits_over : FitsOver
fits_over s seeds old new a b =
    by_over s seeds old new (λ l. Fits 32 l.counters)
    (λ e. copied_fits (counters_used s) old.counters new (2 ^ 32) (λ i. omega (arith, below_at (2 ^ 16) old.counters i (omega arith) a)) b) (λ k. b)

-- ---- a state of a list

pub taken_in_list : TakenInList
unfolding setup_refusal
taken_in_list s seeds before e cs new k =
    let up = set_up_lem limits01 s seeds before e in
    let end = go cs (fresh s before) (fresh_sound limits01 s seeds before up) in
    (refuses s seeds (after narrow s seeds (fresh s before) cs) new).taken (or_else_none (setting_refusal limits01 s seeds) _ e).0 end.long k (memory_ok_lem s _ end.ok)
  where
    go : (cs : List Call) (st : State) → Sound s st → Sound s (after narrow s seeds st cs)
    go [] st h = h
    go (c ∷ cs) st h = go cs (step narrow s seeds st c).state (step_sound narrow s seeds st c h)
