-- The change-over as a C program sees it: the calls after it leave what the calls before it would have left, set-up too, and lists with it are moves of the
-- rules' state.
use mathlib.Core.Path.{◌≡◌, refl, sym, ap, ap₂, ◌∙◌, subst}
use mathlib.Core.List.{List, [], ◌∷◌, ◌++◌, map}
use Prim.Native.Nat.{ℕ, ◌≤◌, ◌<◌}
use native.Mathlib.Omega.{arith}
use lib.ListN.{length, get_or, take}
use lib.Seq.{length-take-le, ext_get_or, get_or-take}
use Rattle.rules.specs.declared.Setting.{Setting}
use Rattle.rules.specs.Answers.{none}
use Rattle.rules.specs.Setting.{setting_of, setting_refusal}
use Rattle.rules.specs.State.{counters_used, fresh}
use Rattle.rules.specs.Policy.{Policy, limits01, limits02, narrow, wide}
use Rattle.rules.specs.Calls.{Outcome, return_code, out_words, setup, step, Activation}
use Rattle.rules.specs.Moves.{Owned, Moves}
use Rattle.rules.proofs.Accept.{number_none}
use Rattle.rules.proofs.Step.{no_moves, and_then, owned, step_moves}
use Rattle.rules.proofs.Demand.{spans_after, demand3_after}
use Rattle.widths.specs.ChangeOver.{change_over_refusal}
use Rattle.widths.proofs.ChangeOver.{taken, leaves as over-leaves}
use Rattle.widths.proofs.Answers.{SameButRest, over_same, step_same, setup_same}
use Rattle.widths.proofs.Lists.{over_moves}
use Rattle.interface.specs.Left.{left, words_left, leaves}
use Rattle.interface.specs.Claims.{Lent, Asked, call_of, out_of, found_in, left_by_setup, left_by, lent_after, left_by_all, lent_after_all, opening_of, openings, left_by_over, lent_over, used_of, AnswersAsBeforeForC, SetUpAsBeforeForC, Width, bits16, bits32, rules_of, ListFrom, ends, call, over, over_refused, again_refused, openings_from, list_of, OneWidthForC, SpansOverForC, Demand3OverForC}
use Rattle.interface.proofs.Program.{step_seen, setup_free, setup_found}

-- a change-over that returns 0 is not refused
over_free : (setting seeds : List ℕ) (m : Lent) (counters : List ℕ) → (left_by_over setting seeds m counters).code ≡ 0
    → change_over_refusal (setting_of setting) seeds (found_in m) counters ≡ none
over_free setting seeds m counters e = number_none _ (sym (over-leaves (setting_of setting) seeds (found_in m) counters).code ∙ e)

-- ---- answers as before

used_same : (n : ℕ) (a b : List ℕ) → n ≤ length a → n ≤ length b → ((i : ℕ) → i < n → get_or b i 0 ≡ get_or a i 0) → take n b ≡ take n a
used_same n a b la lb u =
    ext_get_or 0 (take n b) (take n a) (length-take-le n b lb ∙ sym (length-take-le n a la))
    (λ i h. let k : i < n = omega (arith, length-take-le n b lb) in get_or-take n b i 0 k ∙ u i k ∙ sym (get_or-take n a i 0 k))

-- equal replies on equal words, and states that differ in unused counters only, leave the same
leaves_same : (s : Setting) (o o' : Outcome) (out words words' : List ℕ) → o'.reply ≡ o.reply → words' ≡ words → SameButRest s o.state o'.state
    → used_of s (leaves o' out words') ≡ used_of s (leaves o out words)
unfolding leaves
leaves_same s o o' out words words' e w t =
    let u = t.used in
    let used = used_same (counters_used s) o.state.counters o'.state.counters u.long.counters u.long_too.counters u.counters in
    λ k. left (return_code (e k)) (out_words (e k) out) (words_left (e k) (w k) (u.head k)) (used k) (t.ticks k) (t.rows k) (t.threads k)

-- memories with equal head words, and states that differ in unused counters only
record SameMemory (s : Setting) (a b : Lent) : Type 0 where
  words : b.head ≡ a.head
  states : SameButRest s (found_in a) (found_in b)

module _ (setting seeds : List ℕ) (ok : setting_refusal limits01 (setting_of setting) seeds ≡ none) where
  abbrev s : Setting
  s = setting_of setting

  left_same : (a b : Lent) → SameMemory s a b → (c : Asked)
      → let x = left_by narrow setting seeds a c in
      let y = left_by wide setting seeds b c in
      (used_of s y ≡ used_of s x) × SameMemory s (lent_after x) (lent_after y)
  left_same a b t c =
      let next = step_same s seeds ok (found_in a) (found_in b) t.states (call_of c) in
      let same = leaves_same s (step narrow s seeds (found_in a) (call_of c)) (step wide s seeds (found_in b) (call_of c)) (out_of c) a.head b.head next.0 t.words next.1 in
      let ka = (step_seen narrow setting seeds a c).state in
      let kb = (step_seen wide setting seeds b c).state in
      (same, record { words = ap (λ l. l.head) same; states = rw (ka, kb) next.1 })

  run_same : (cs : List Asked) (a b : Lent) → SameMemory s a b
      → (map (used_of s) (left_by_all wide setting seeds b cs) ≡ map (used_of s) (left_by_all narrow setting seeds a cs))
      × SameMemory s (lent_after_all narrow setting seeds a cs) (lent_after_all wide setting seeds b cs)
  run_same [] a b t = (refl, t)
  run_same (c ∷ cs) a b t =
      let x = left_same a b t c in
      let rest = run_same cs (lent_after (left_by narrow setting seeds a c)) (lent_after (left_by wide setting seeds b c)) x.1 in
      (ap₂ (λ l ls. l ∷ ls) x.0 rest.0, rest.1)

  setup_left : (a b : Lent) → SameMemory s a b → used_of s (left_by_setup wide setting seeds b) ≡ used_of s (left_by_setup narrow setting seeds a)
  setup_left a b t =
      let up = setup_same s seeds ok (found_in a) (found_in b) t.states in
      leaves_same s (setup limits01 s seeds (found_in a)) (setup limits02 s seeds (found_in b)) [] a.head b.head (up.1 ∙ sym up.0) t.words up.2

-- what holds of the setting, and of the two memories after the calls, where the change-over returns 0
module _ (setting seeds : List ℕ) (m : Lent) (counters : List ℕ) (e : (left_by_over setting seeds m counters).code ≡ 0) where
  accepted : setting_refusal limits01 (setting_of setting) seeds ≡ none
  accepted = (taken (setting_of setting) seeds (found_in m) counters (over_free setting seeds m counters e)).setting

  over_run : (cs : List Asked)
      → let new = lent_over m (left_by_over setting seeds m counters) in
      (map (used_of (setting_of setting)) (left_by_all wide setting seeds new cs) ≡ map (used_of (setting_of setting)) (left_by_all narrow setting seeds m cs))
      × SameMemory (setting_of setting) (lent_after_all narrow setting seeds m cs) (lent_after_all wide setting seeds new cs)
  over_run cs =
      run_same setting seeds accepted cs m (lent_over m (left_by_over setting seeds m counters))
      (record { words = refl; states = over_same (setting_of setting) seeds (found_in m) counters (over_free setting seeds m counters e) })

pub answers_as_before_for_c : AnswersAsBeforeForC
answers_as_before_for_c setting seeds m counters e cs = (over_run setting seeds m counters e cs).0

pub set_up_as_before_for_c : SetUpAsBeforeForC
set_up_as_before_for_c setting seeds m counters e cs =
    setup_left setting seeds (accepted setting seeds m counters e) _ _ (over_run setting seeds m counters e cs).1

-- ---- lists with a change-over

-- those of one width
one_width : (setting seeds : List ℕ) (w : Width) (m : Lent) (cs : List Asked)
    → openings_from setting seeds (list_of setting seeds w m cs) ≡ openings cs (left_by_all (rules_of w) setting seeds m cs)
one_width setting seeds w m [] = refl
one_width setting seeds w m (c ∷ cs) =
    let l = left_by (rules_of w) setting seeds m c in
    ap (λ os. opening_of c l ++ os) (one_width setting seeds w (lent_after l) cs)

pub one_width_for_c : (setting seeds : List ℕ) (m : Lent) (cs : List Asked) → OneWidthForC setting seeds m cs
one_width_for_c setting seeds m cs = record { old = one_width setting seeds bits16 m cs; new = one_width setting seeds bits32 m cs }

module _ (setting seeds : List ℕ) where
  -- from the state in the memory m, by moves that make these activations
  abbrev FromBy : Lent → List Activation → Type 0
  FromBy m os = (y : Owned) × Moves (setting_of setting) (owned seeds (found_in m)) y os

  call_moves : (p : Policy) (m : Lent) (c : Asked)
      → let l = left_by p setting seeds m c in
      Moves (setting_of setting) (owned seeds (found_in m)) (owned seeds (found_in (lent_after l))) (opening_of c l)
  call_moves p m c =
      let k = step_seen p setting seeds m c in
      rw (k.state, k.opening) (step_moves p (setting_of setting) seeds (found_in m) (call_of c))

  list_moves : {w : Width} {m : Lent} (cs : ListFrom setting seeds w m) → FromBy m (openings_from setting seeds cs)
  list_moves (ends w m) = (owned seeds (found_in m), no_moves (setting_of setting) (owned seeds (found_in m)))
  list_moves (call w m c cs) =
      let rest = list_moves cs in
      (rest.0, and_then (setting_of setting) (call_moves (rules_of w) m c) rest.1)
  list_moves (over m counters e cs) =
      let rest = list_moves cs in
      (rest.0, and_then (setting_of setting) (over_moves (setting_of setting) seeds (found_in m) counters (over_free setting seeds m counters e)) rest.1)
  list_moves (over_refused w m given counters e cs) = list_moves cs
  list_moves (again_refused m given e cs) =
      subst (λ l. FromBy (record { head = m.head; counters = l; ticks = m.ticks; rows = m.rows; threads = m.threads }) (openings_from setting seeds cs))
      ((over-leaves (setting_of setting) seeds (found_in given) m.counters).refused e) (list_moves cs)

  -- after set-up, from the cleared state
  after_setup : (w : Width) (m : Lent) → (left_by_setup (rules_of w) setting seeds m).code ≡ 0
      → (cs : ListFrom setting seeds w (lent_after (left_by_setup (rules_of w) setting seeds m)))
      → (y : Owned) × Moves (setting_of setting) (owned seeds (fresh (setting_of setting) (found_in m))) y (openings_from setting seeds cs)
  after_setup w m e cs = rw (setup_found (rules_of w) setting seeds m e) at (list_moves cs)

pub spans_over_for_c : SpansOverForC
spans_over_for_c w setting seeds m e cs =
    spans_after (rules_of w).limits (setting_of setting) seeds (found_in m) (setup_free (rules_of w) setting seeds m e) _ _ (after_setup setting seeds w m e cs).1

pub demand3_over_for_c : Demand3OverForC
demand3_over_for_c w setting seeds m e cs =
    demand3_after (rules_of w).limits (setting_of setting) seeds (found_in m) (setup_free (rules_of w) setting seeds m e) _ _ (after_setup setting seeds w m e cs).1
