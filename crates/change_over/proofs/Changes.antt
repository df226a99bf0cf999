-- The copy, cell by cell, and the refusals of the change-over as tests of what was lent.
use Prim.Native.Nat.{ℕ, ◌≤◌, ◌<◌, min}
use mathlib.Core.Path.{◌≡◌, refl, sym, ap, ◌∙◌}
use mathlib.Core.List.{List, ◌++◌}
use mathlib.Core.Bool.{Bool, true, false, not, ◌||◌}
use native.Mathlib.Omega.{arith}
use native.Mathlib.Decide.{dec_lt}
use lib.Dec.{ltb}
use lib.ListN.{length, get_or, take, drop}
use borrow.Author.Rules.{rules}
use Rattle.std.proofs.lemmas.List.{places}
use borrow.Author.Tests.{lt-ltb, le-ltb, eq-eqb, ne_eqb}
use Rattle.rules.specs.declared.Setting.{Setting}
use Rattle.rules.specs.declared.Limits.{Limits}
use Rattle.refused.specs.declared.Refusal.{Refusal}
use Rattle.refused.specs.Numbers.{number_of, code_of}
use Rattle.refused.specs.Passed.{passed}
use Rattle.refused.proofs.Laws.{code_passed, number_some}
use Rattle.std.specs.Prelude.{Result, Ok, Err}
use Rattle.rules.specs.Answers.{none, short_buffer, bad_memory, refusal_number, refuse, or_else}
use Rattle.rules.specs.Setting.{history_length, setting_refusal}
use Rattle.rules.specs.State.{State, counters_used, threads_used, head_of, too_short}
use Rattle.rules.specs.History.{memory_ok}
use Rattle.rules.specs.Policy.{limits01}
use Rattle.rules.proofs.Tests.{or_false, or_true}
use Rattle.rules.proofs.Cells.{is_map_cells}
use Rattle.rules.proofs.Accept.{number_none}
use Rattle.refusal.specs.Memory.{memory_test}
use Rattle.refusal.specs.Lengths.{short_test, setup_test}
use Rattle.refusal.specs.Tests.{lent_test}
use Rattle.refusal.proofs.Refusals.{refuse_parts}
use Rattle.widths.specs.ChangeOver.{change_over_refusal, copied_cell, copied, changed_over, change_over}
use Rattle.widths.proofs.ChangeOver.{Taken, taken}
use Rattle.interface.specs.Left.{found}

-- ---- the copy

-- the first `used` counters in place of the others, each as the old one, are the copy
pub copied_first : (used : ℕ) (old new first : List ℕ) → used ≤ length new → length first ≡ used
    → ((j : ℕ) → j < used → get_or first j 0 ≡ get_or (take used old) j 0) → first ++ drop used new ≡ copied used old new
unfolding copied
copied_first used old new first long e same =
    is_map_cells (copied_cell used old) (first ++ drop used new) new (search (rules, places)) (λ j h. cell j h (dec_lt j used))
  where
    cell : (j : ℕ) → j < length new → Dec (j < used) → get_or (first ++ drop used new) j 0 ≡ copied_cell used old j (get_or new j 0)
    cell j h (yes k) = let x : get_or first j 0 ≡ get_or (take used old) j 0 = same j k in rw (lt-ltb j used k) (grind (arith, places))
    cell j h (no k) = rw (le-ltb j used (omega arith)) (grind (arith, places))

-- ---- the refusals

-- the shorter of two lists is too short where one of them is
shorter_short : (a b u : ℕ) → ltb (min a b) u ≡ (ltb a u || ltb b u)
shorter_short a b u = go (dec_lt a u) (dec_lt b u)
  where
    go : Dec (a < u) → Dec (b < u) → ltb (min a b) u ≡ (ltb a u || ltb b u)
    go (yes h) k = lt-ltb (min a b) u (omega arith) ∙ rw (lt-ltb a u h)
    go (no h) (yes k) = lt-ltb (min a b) u (omega arith) ∙ rw (le-ltb a u (omega arith), lt-ltb b u k)
    go (no h) (no k) = le-ltb (min a b) u (omega arith) ∙ rw (le-ltb a u (omega arith), le-ltb b u (omega arith))

-- the second of five tests may stand last
second_last : (x y p q r : Bool) → (((x || y) || p) || q) || r ≡ (((x || p) || q) || r) || y
second_last true y p q r = refl
second_last false true p q r = sym (or_true (p || q || r))
second_last false false p q r = sym (or_false (p || q || r))

module _ (s : Setting) (seeds words old new ticks rows threads : List ℕ) where
  -- the state with the old counters
  abbrev saved : State
  saved = found words old ticks rows threads

  pub refusal_test : change_over_refusal s seeds saved new ≡ lent_test limits01 s seeds (head_of words) (min (length old) (length new)) ticks (length rows) (length threads) true
  unfolding change_over_refusal lent_test too_short setup_test short_test memory_ok memory_test
  refusal_test =
      let short = short_test s (length old) (length ticks) (length rows) (length threads) || ltb (length new) (counters_used s) in
      let bad = not (memory_test s (head_of words) ticks) in
      refuse_parts (setting_refusal limits01 s seeds) short short_buffer (refuse bad bad_memory none) (λ z. omega arith)
      ∙ ap (λ q. or_else (or_else (setting_refusal limits01 s seeds) (refuse q short_buffer none)) (refuse bad bad_memory none))
      (sym (second_last (ltb (length old) (counters_used s)) (ltb (length new) (counters_used s)) (ltb (length ticks) (history_length s)) (ltb (length rows) (history_length s)) (ltb (length threads) (threads_used s)))
      ∙ ap (λ q. ((q || ltb (length ticks) (history_length s)) || ltb (length rows) (history_length s)) || ltb (length threads) (threads_used s)) (sym (shorter_short (length old) (length new) (counters_used s))))

  -- what the tests answer is what the rules refuse
  module _ (m : Limits) (shorter : ℕ) (tested : Result (Unit {0}) Refusal) (em : m ≡ limits01) (es : shorter ≡ min (length old) (length new))
      (e : tested ≡ passed (lent_test m s seeds (head_of words) shorter ticks (length rows) (length threads) true)) where
    code_is : code_of tested ≡ refusal_number (change_over_refusal s seeds saved new)
    code_is =
        rw (em, es) at (ap code_of e ∙ code_passed (lent_test m s seeds (head_of words) shorter ticks (length rows) (length threads) true)) ∙ ap refusal_number (sym refusal_test)

    -- what the tests that it passed give
    pub all_passed : (u : Unit {0}) → tested ≡ Ok u → Taken s seeds saved new
    all_passed u k = taken s seeds saved new (number_none _ (sym code_is ∙ ap code_of k))

    pub left_refused : (r : Refusal) → tested ≡ Err r → changed_over (number_of r) new ≡ change_over s seeds saved new
    unfolding change_over
    left_refused r k =
        let n : number_of r ≡ refusal_number (change_over_refusal s seeds saved new) = sym (ap code_of k) ∙ code_is in
        rw (ne_eqb (refusal_number (change_over_refusal s seeds saved new)) 0 (λ z. number_some r (n ∙ z))) (ap (λ x. changed_over x new) n)

    pub left_taken : (u : Unit {0}) → tested ≡ Ok u → changed_over 0 (copied (counters_used s) old new) ≡ change_over s seeds saved new
    unfolding change_over
    left_taken u k = rw (eq-eqb (refusal_number (change_over_refusal s seeds saved new)) 0 (sym code_is ∙ ap code_of k)) refl
