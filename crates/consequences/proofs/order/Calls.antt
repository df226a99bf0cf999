-- Calls within one epoch count their openings in the filters and change them in no other way; so the order of the openings plays no part.
use mathlib.Core.Path.{◌≡◌, refl, sym, ap, ◌∙◌, subst}
use mathlib.Core.List.{List, [], ◌∷◌, ◌++◌}
use Prim.Native.Nat.{ℕ, ◌+◌, ◌*◌, ◌≤◌, ◌<◌}
use native.Mathlib.Omega.{arith}
use native.Mathlib.Nat.{le_of_eq}
use lib.Dec.{T}
use lib.ListN.{length}
use Rattle.head.specs.Head.{moved_head, activated_head}
use Rattle.rules.specs.declared.Setting.{Setting}
use Rattle.rules.specs.declared.Decision.{Decision}
use Rattle.rules.specs.declared.Decision.TheVariants.{Open, Hold, OverQuota}
use Rattle.rules.specs.Cells.{All}
use Rattle.rules.specs.Answers.{Refusal, none, refusal_number}
use Rattle.rules.specs.Setting.{seeds_in_range}
use Rattle.rules.specs.State.{State, counters_used, counter_cell}
use Rattle.rules.specs.Clock.{epoch, turned}
use Rattle.rules.specs.Hash.{places}
use Rattle.rules.specs.Policy.{Policy, narrow, wide}
use Rattle.rules.specs.Decision.{decide, activated, openings_left, answer_of}
use Rattle.rules.specs.Tested.{Taken}
use Rattle.rules.specs.Calls.{Call, request, done, index, refused, answered, Outcome, outcome, after_decision, requested, reported, index_shown, call_tick, refusal_of, performed, step, replies, after, Activation, activation_of, activations}
use Rattle.rules.proofs.Places.{hash_lt, places_within}
use Rattle.rules.proofs.Accept.{call_taken}
use Rattle.rules.proofs.Clock.{counters_none}
use Rattle.rules.proofs.Memory.{turned_long}
use Rattle.rules.proofs.Step.{by_refusal, unless_taken}
use Rattle.widths.specs.ChangeOver.{change_over_refusal, change_over, changed_state}
use Rattle.widths.proofs.Theorems.{theorems as widths}
use Rattle.consequences.specs.order.Filled.{filter_of, least_at, filled}
use Rattle.consequences.specs.order.Claims.{InEpoch, FilledByCalls, FilledFromTurn, FilledOver, SameContents, SameEstimates}
use Rattle.consequences.proofs.order.Group.{filled_append, order_plays_no_part}
use Rattle.consequences.proofs.order.Filters.{filter_same, counted_in_filters, estimate_of_filter}

-- a row's places are within a filter
places_in : (seeds : List ℕ) → T (seeds_in_range seeds) → (row : ℕ) → All (λ h. h < 1024) (places seeds row)
unfolding places
places_in seeds ok row = (hash_lt seeds ok 0 row, (hash_lt seeds ok 1 row, (hash_lt seeds ok 2 row, (hash_lt seeds ok 3 row, tt))))

-- a move of the clock within an epoch clears no counter
turned_same : (s : Setting) (st : State) (t : ℕ) → epoch s t ≡ epoch s st.head.last → (turned s st t).counters ≡ st.counters
unfolding turned
turned_same s st t e = sym (counters_none (counters_used s) (epoch s st.head.last) (epoch s t) st.counters (le_of_eq e))

-- ---- from one state to another

-- the filter of the second state is that of the first with these openings counted, and its last tick is in this epoch
pub record Fills (s : Setting) (seeds : List ℕ) (bank f e : ℕ) (x y : State) (os : List Activation) : Type 0 where
  pub filter : filter_of y.counters bank f ≡ filled s.n bank (places seeds) os (filter_of x.counters bank f)
  pub stays : epoch s y.head.last ≡ e

module _ (s : Setting) (seeds : List ℕ) (bank f e : ℕ) where
  pub fills_none : (st : State) → epoch s st.head.last ≡ e → Fills s seeds bank f e st st []
  fills_none st k = record { filter = refl; stays = k }

  pub fills_then : {x y z : State} {os ps : List Activation} → Fills s seeds bank f e x y os → Fills s seeds bank f e y z ps → Fills s seeds bank f e x z (os ++ ps)
  fills_then {x = x} {os = os} {ps = ps} first second =
      let at = places seeds in
      record {
        filter = second.filter ∙ ap (filled s.n bank at ps) first.filter ∙ sym (filled_append s.n bank at os ps (filter_of x.counters bank f));
        stays = second.stays;
      }

-- ---- one call

module _ (p : Policy) (s : Setting) (seeds : List ℕ) (bank f : ℕ) (f2 : f < 2) where
  -- from the state turned to the call's tick to the one that the call leaves
  abbrev ByTurned : State → Call → Outcome → Type 0
  ByTurned st c o = Fills s seeds bank f (epoch s (call_tick c)) (turned s st (call_tick c)) o.state (activation_of c o.reply)

  request_turned : (st : State) (t b th r : ℕ) → Taken p.limits s seeds st t b th → ByTurned st (request t b th r) (performed p s (λ g. seeds) st (request t b th r))
  unfolding requested turned moved_head activated activated_head
  request_turned st t b th r k = go (decide p s at x b th r)
    where
      at : ℕ → List ℕ
      at g = places seeds r

      x : State
      x = turned s st t

      fit : All (λ h. h < 1024) (places seeds r)
      fit = places_in seeds k.setting.seeds_ok r

      long : b * 2048 + 2048 ≤ length (turned s st t).counters
      long = omega (arith, (turned_long s st t k.long).counters, k.bank_in)

      go : (d : Decision) → ByTurned st (request t b th r) (outcome (answered (answer_of d (openings_left s at (activated s at x b th r) b))) (after_decision d x (activated s at x b th r)))
      go Open = record { filter = counted_in_filters s.n b at fit fit (turned s st t).counters long bank f f2; stays = refl }
      go (Hold c u) = record { filter = refl; stays = refl }
      go OverQuota = record { filter = refl; stays = refl }

  performed_turned : (st : State) (c : Call) → refusal_of p.limits s seeds st c ≡ none → ByTurned st c (performed p s (λ g. seeds) st c)
  unfolding reported index_shown turned moved_head
  performed_turned st (request t b th r) k = request_turned st t b th r (call_taken p.limits s seeds st (request t b th r) k)
  performed_turned st (done t b th) k = record { filter = refl; stays = refl }
  performed_turned st (index t b th) k = record { filter = refl; stays = refl }

  step_turned : (st : State) (c : Call) → refusal_of p.limits s seeds st c ≡ none → ByTurned st c (step p s seeds st c)
  unfolding step
  step_turned st c k =
      subst (ByTurned st c) (sym (unless_taken (refusal_of p.limits s seeds st c) st (performed p s (λ g. seeds) st c) (ap refusal_number k))) (performed_turned st c k)

  -- from the state that the call finds to the one that it leaves, within epoch e
  abbrev ByCall : ℕ → State → Call → Outcome → Type 0
  ByCall e st c o = Fills s seeds bank f e st o.state (activation_of c o.reply)

  performed_within : (e : ℕ) (st : State) (c : Call) → epoch s st.head.last ≡ e → epoch s (call_tick c) ≡ e → refusal_of p.limits s seeds st c ≡ none
      → ByCall e st c (performed p s (λ g. seeds) st c)
  performed_within e st c a b k =
      let o = performed p s (λ g. seeds) st c in
      let t = performed_turned st c k in
      record {
        filter = t.filter ∙ ap (λ cs. filled s.n bank (places seeds) (activation_of c o.reply) (filter_of cs bank f)) (turned_same s st (call_tick c) (b ∙ sym a));
        stays = t.stays ∙ b;
      }

  refused_within : (e : ℕ) (st : State) (c : Call) (r : Refusal) → epoch s st.head.last ≡ e → ByCall e st c (outcome (refused r) st)
  refused_within e st (request t b th x) r a = fills_none s seeds bank f e st a
  refused_within e st (done t b th) r a = fills_none s seeds bank f e st a
  refused_within e st (index t b th) r a = fills_none s seeds bank f e st a

  pub step_within : (e : ℕ) (st : State) (c : Call) → epoch s st.head.last ≡ e
      → (refusal_of p.limits s seeds st c ≡ none → epoch s (call_tick c) ≡ e) → ByCall e st c (step p s seeds st c)
  unfolding step
  step_within e st c a b =
      by_refusal (ByCall e st c) (refusal_of p.limits s seeds st c) st (performed p s (λ g. seeds) st c)
      (λ k. performed_within e st c a (b k) k) (refused_within e st c (refusal_of p.limits s seeds st c) a)

  -- ---- a list of calls

  run_within : (e : ℕ) (cs : List Call) (st : State) → epoch s st.head.last ≡ e → InEpoch p s seeds e st cs
      → Fills s seeds bank f e st (after p s seeds st cs) (activations cs (replies p s seeds st cs))
  run_within e [] st a h = fills_none s seeds bank f e st a
  run_within e (c ∷ cs) st a h =
      let first = step_within e st c a h.0 in
      fills_then s seeds bank f e first (run_within e cs (step p s seeds st c).state first.stays h.1)

pub filled_by_calls : (p : Policy) → FilledByCalls p
filled_by_calls p s seeds st cs h bank f f2 = (run_within p s seeds bank f f2 (epoch s st.head.last) cs st refl h).filter

pub filled_from_turn : (p : Policy) → FilledFromTurn p
filled_from_turn p s seeds st c cs k h bank f f2 =
    let e = epoch s (call_tick c) in
    let first = step_turned p s seeds bank f f2 st c k in
    (fills_then s seeds bank f e first (run_within p s seeds bank f f2 e cs (step p s seeds st c).state first.stays h)).filter

-- ---- a change-over

-- it takes over the filters of the setting's banks
over_fills : (s : Setting) (seeds : List ℕ) (bank f e : ℕ) (old : State) (new : List ℕ) → change_over_refusal s seeds old new ≡ none → bank < s.banks → f < 2
    → epoch s old.head.last ≡ e → Fills s seeds bank f e old (changed_state s seeds old new) []
over_fills s seeds bank f e old new k b f2 a =
    let l = widths.leaves s seeds old new in
    record {
      filter = filter_same old.counters (change_over s seeds old new).counters bank f
          (λ j h. l.used (l.code ∙ ap refusal_number k) (counter_cell bank f j) (omega arith));
      stays = a;
    }

pub filled_over : FilledOver
filled_over s seeds st earlier new later k h g bank f b f2 =
    let e = epoch s st.head.last in
    let end = after narrow s seeds st earlier in
    let first = run_within narrow s seeds bank f f2 e earlier st refl h in
    let over = over_fills s seeds bank f e end new k b f2 first.stays in
    (fills_then s seeds bank f e first
    (fills_then s seeds bank f e over (run_within wide s seeds bank f f2 e later (changed_state s seeds end new) over.stays g))).filter

-- ---- two lists that open the same group

pub same_contents : (p : Policy) → SameContents p
same_contents p s seeds st su cs ds h g bank f f2 group e =
    let os = activations cs (replies p s seeds st cs) in
    let ps = activations ds (replies p s seeds su ds) in
    filled_by_calls p s seeds st cs h bank f f2
    ∙ order_plays_no_part s.n bank (places seeds) os ps group (filter_of st.counters bank f)
    ∙ ap (filled s.n bank (places seeds) ps) e
    ∙ sym (filled_by_calls p s seeds su ds g bank f f2)

pub same_estimates : (p : Policy) → SameEstimates p
same_estimates p s seeds ok st su cs ds h g bank f f2 group e row =
    let at = places seeds row in
    let within = places_within seeds ok row in
    estimate_of_filter (after p s seeds st cs).counters bank f at within
    ∙ ap (λ x. least_at x at) (same_contents p s seeds st su cs ds h g bank f f2 group e)
    ∙ sym (estimate_of_filter (after p s seeds su ds).counters bank f at within)
