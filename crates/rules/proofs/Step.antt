-- Every call is moves, refused ones none; so the activations of any list of calls are those of a list of moves.
use mathlib.Core.Path.{◌≡◌, refl, sym, ap, ◌∙◌, subst}
use mathlib.Core.Logic.{◌≢◌}
use mathlib.Core.List.{List, [], ◌∷◌, ◌++◌}
use mathlib.Core.Bool.{Bool, true, false, cond}
use Prim.Native.Nat.{ℕ}
use native.Mathlib.Omega.{arith}
use borrow.Author.Tests.{eq-eqb, ne_eqb}
use lib.Dec.{T, eqb, eqb→eq}
use Rattle.head.specs.Head.{moved_head}
use Rattle.rules.specs.declared.Setting.{Setting}
use Rattle.rules.specs.declared.Limits.{Limits}
use Rattle.rules.specs.declared.Decision.{Decision}
use Rattle.rules.specs.declared.Decision.TheVariants.{Open, Hold, OverQuota}
use Rattle.rules.specs.declared.Answer.{Answer}
use Rattle.rules.specs.Answers.{Refusal, none, refusal_number}
use Rattle.rules.specs.Setting.{seeds_in_range}
use Rattle.rules.specs.State.{State, fresh}
use Rattle.rules.specs.Clock.{turned}
use Rattle.rules.specs.Hash.{places}
use Rattle.rules.specs.Policy.{Policy}
use Rattle.rules.specs.Decision.{quota_rule, bank_rule, rank_rule, row_rule, wait_tick, first_failing, decide, activated, openings_left, answer_of}
use Rattle.rules.specs.Tested.{Long, Taken}
use Rattle.rules.specs.Calls.{Call, request, done, index, Reply, refused, answered, finished, shown, return_code, setup, setup_refusal, call_refusal, Outcome, outcome, unless_refused, after_decision, requested, reported, index_shown, call_tick, call_bank, call_thread, performed, refusal_of, step, replies, after, Activation, activation_of, activations}
use Rattle.rules.specs.Moves.{Owned, Move, clock, activate, renew, Reseeds, SameParts, AllAllowed, moved, moved_by, made_by, Moves}
use Rattle.rules.proofs.Tests.{holds}
use Rattle.rules.proofs.Accept.{number_none, call_taken}
use Rattle.rules.proofs.Memory.{turned_long}
use Rattle.rules.proofs.Decisions.{kind_of, decision_of, decision_of_lem}

-- ---- the rules of an opened request

-- a row is opened only if all four rules pass
all_pass : (a b c d : Bool) (u : ℕ) → first_failing a b c d u ≡ Open → T a × T b × T c × T d
all_pass false b c d u e = absurd (omega (arith, ap kind_of e))
all_pass true false c d u e = absurd (omega (arith, ap kind_of e))
all_pass true true false d u e = absurd (omega (arith, ap kind_of e))
all_pass true true true false u e = absurd (omega (arith, ap kind_of e))
all_pass true true true true u e = (tt, tt, tt, tt)

pub opened_rules : (p : Policy) (s : Setting) (at : ℕ → List ℕ) (st : State) (b th r : ℕ) → decide p s at st b th r ≡ Open
    → T (quota_rule p s st b th) × T (bank_rule s st b) × T (rank_rule s st) × T (row_rule s at st b r)
unfolding decide
opened_rules p s at st b th r e =
    all_pass (quota_rule p s st b th) (bank_rule s st b) (rank_rule s st) (row_rule s at st b r) (wait_tick s at st b r) e

-- a call either is refused and changes nothing, or is not
pub by_refusal : (P : Outcome → Type 0) (r : Refusal) (st : State) (o : Outcome)
    → (r ≡ none → P o) → P (record { reply = refused r; state = st }) → P (unless_refused r st o)
unfolding unless_refused
by_refusal P r st o f g = go (eqb (refusal_number r) 0) refl
  where
    go : (q : Bool) → eqb (refusal_number r) 0 ≡ q → P (cond q o (record { reply = refused r; state = st }))
    go true e = f (number_none r (eqb→eq (refusal_number r) 0 (holds (eqb (refusal_number r) 0) e)))
    go false e = g

pub unless_taken : (r : Refusal) (st : State) (o : Outcome) → refusal_number r ≡ 0 → unless_refused r st o ≡ o
unfolding unless_refused
unless_taken r st o e = rw (eq-eqb (refusal_number r) 0 e)

pub unless_refused_lem : (r : Refusal) (st : State) (o : Outcome) → refusal_number r ≢ 0 → unless_refused r st o ≡ outcome (refused r) st
unfolding unless_refused
unless_refused_lem r st o h = rw (ne_eqb (refusal_number r) 0 h)

-- the number that set-up returns, and the state that it leaves where it is not refused
pub setup_code : (m : Limits) (s : Setting) (seeds : List ℕ) (st : State) → return_code (setup m s seeds st).reply ≡ refusal_number (setup_refusal m s seeds st)
unfolding setup
setup_code m s seeds st =
    by_refusal (λ o. return_code o.reply ≡ refusal_number (setup_refusal m s seeds st)) (setup_refusal m s seeds st) st (outcome finished (fresh s st))
    (λ e. sym (ap refusal_number e)) refl

pub setup_state : (m : Limits) (s : Setting) (seeds : List ℕ) (st : State) → refusal_number (setup_refusal m s seeds st) ≡ 0 → (setup m s seeds st).state ≡ fresh s st
unfolding setup
setup_state m s seeds st e = ap (λ o. o.state) (unless_taken (setup_refusal m s seeds st) st (outcome finished (fresh s st)) e)

-- ---- a request that is answered

-- what tells an answer from other replies
abbrev told : Reply → ℕ
told (refused r) = 0
told (answered a) = 1
told finished = 2
told (shown c d q) = 3

-- the answer that a reply holds, or another one
abbrev answer_in : Reply → Answer → Answer
answer_in (refused r) other = other
answer_in (answered a) other = a
answer_in finished other = other
answer_in (shown c d q) other = other

-- It was not refused, the answer is that of the decision on the turned state, and the state is the one after the decision.
pub record Answers (p : Policy) (s : Setting) (seeds : List ℕ) (st : State) (t bank thread row : ℕ) (a : Answer) : Type 0 where
  pub free : call_refusal p.limits s seeds st t bank thread ≡ none
  pub says : answer_of (decide p s (λ f. places seeds row) (turned s st t) bank thread row)
      (openings_left s (λ f. places seeds row) (activated s (λ f. places seeds row) (turned s st t) bank thread row) bank) ≡ a
  pub left : (step p s seeds st (request t bank thread row)).state
      ≡ after_decision (decision_of a) (turned s st t) (activated s (λ f. places seeds row) (turned s st t) bank thread row)

pub answers : (p : Policy) (s : Setting) (seeds : List ℕ) (st : State) (t bank thread row : ℕ) (a : Answer)
    → (step p s seeds st (request t bank thread row)).reply ≡ answered a → Answers p s seeds st t bank thread row a
unfolding step requested
answers p s seeds st t bank thread row a e =
    by_refusal (λ o. o.reply ≡ answered a → Answers p s seeds st t bank thread row a) r st (requested p s at moved bank thread row) taken_so
    (λ z. absurd (omega (arith, ap told z))) e
  where
    r : Refusal
    r = call_refusal p.limits s seeds st t bank thread

    at : ℕ → List ℕ
    at f = places seeds row

    moved : State
    moved = turned s st t

    opened : State
    opened = activated s at moved bank thread row

    taken_so : r ≡ none → (requested p s at moved bank thread row).reply ≡ answered a → Answers p s seeds st t bank thread row a
    taken_so k z =
        let says = ap (λ x. answer_in x a) z in
        record {
          free = k;
          says = says;
          left = ap (λ o. o.state) (unless_taken r st (requested p s at moved bank thread row) (ap refusal_number k))
              ∙ ap (λ d. after_decision d moved opened) (decision_of_lem (decide p s at moved bank thread row) (openings_left s at opened bank) a says);
        }

-- ---- moves one after the other

module _ (s : Setting) where
  pub no_moves : (x : Owned) → Moves s x x []
  no_moves x = record { moves = []; allowed = tt; end = refl; makes = refl }

  both_allowed : (x : Owned) (vs ws : List Move) → AllAllowed s x vs → AllAllowed s (moved_by s x vs) ws → AllAllowed s x (vs ++ ws)
  both_allowed x [] ws a b = b
  both_allowed x (v ∷ vs) ws a b = (a.0, both_allowed (moved s x v) vs ws a.1 b)

  both_end : (x : Owned) (vs ws : List Move) → moved_by s x (vs ++ ws) ≡ moved_by s (moved_by s x vs) ws
  both_end x [] ws = refl
  both_end x (v ∷ vs) ws = both_end (moved s x v) vs ws

  both_makes : (x : Owned) (vs ws : List Move) → made_by s x (vs ++ ws) ≡ made_by s x vs ++ made_by s (moved_by s x vs) ws
  both_makes x [] ws = refl
  both_makes x (clock t own ∷ vs) ws = both_makes (moved s x (clock t own)) vs ws
  both_makes x (activate b th r ∷ vs) ws = ap (λ l. record { tick = x.state.head.last; bank = b; thread = th; row = r } ∷ l) (both_makes (moved s x (activate b th r)) vs ws)
  both_makes x (renew st ∷ vs) ws = both_makes (moved s x (renew st)) vs ws

  pub and_then : {x y z : Owned} {new more : List Activation} → Moves s x y new → Moves s y z more → Moves s x z (new ++ more)
  and_then {x = x} {new = new} a b =
      let vs = a.moves in
      let ws = b.moves in
      record {
        moves = vs ++ ws;
        allowed = both_allowed x vs ws a.allowed (subst (λ w. AllAllowed s w ws) (sym a.end) b.allowed);
        end = both_end x vs ws ∙ ap (λ w. moved_by s w ws) a.end ∙ b.end;
        makes = both_makes x vs ws ∙ ap (λ l. l ++ made_by s (moved_by s x vs) ws) a.makes ∙ ap (λ w. new ++ made_by s w ws) a.end ∙ ap (λ l. new ++ l) b.makes;
      }

-- ---- a call

-- a done changes a thread counter only
reported_same : (s : Setting) (st : State) (b th : ℕ) → Long s st → SameParts s st (reported s st b th).state
unfolding reported
reported_same s st b th l =
    record {
      head = refl;
      counters_long = l.counters;
      ticks_long = l.ticks;
      rows_long = l.rows;
      counters = λ i h. refl;
      ticks = λ i h. refl;
      rows = λ i h. refl;
    }

-- the state with the setting's seeds in both filters
abbrev pub owned : List ℕ → State → Owned
owned seeds st = record { state = st; own = λ f. seeds }

module _ (p : Policy) (s : Setting) (seeds : List ℕ) where
  -- from a state, a call is moves to the state of its outcome, and its activations are those that its reply tells
  abbrev ByMoves : State → Call → Outcome → Type 0
  ByMoves st c o = Moves s (owned seeds st) (owned seeds o.state) (activation_of c o.reply)

  reseeds : (e e' : ℕ) → T (seeds_in_range seeds) → Reseeds e e' (λ f. seeds) (λ f. seeds)
  reseeds e e' fit = record { fit = λ f f2. fit; same = λ f f2 n. refl }

  performed_moves : (st : State) (c : Call) → Taken p.limits s seeds st (call_tick c) (call_bank c) (call_thread c)
      → ByMoves st c (performed p s (λ f. seeds) st c)
  unfolding requested reported index_shown turned moved_head
  performed_moves st (request t b th r) k = go (decide p s at (turned s st t) b th r) refl
    where
      at : ℕ → List ℕ
      at f = places seeds r

      opened : State
      opened = activated s at (turned s st t) b th r

      go : (d : Decision) → decide p s at (turned s st t) b th r ≡ d
          → ByMoves st (request t b th r) (record { reply = answered (answer_of d (openings_left s at opened b)); state = after_decision d (turned s st t) opened })
      go Open e =
          let q = opened_rules p s at (turned s st t) b th r e in
          record {
            moves = clock t (λ f. seeds) ∷ activate b th r ∷ [];
            allowed = ((k.later, reseeds _ _ k.setting.seeds_ok), ((k.bank_in, q.1, q.2, q.3), tt));
            end = refl;
            makes = refl;
          }
      go (Hold c u) e = record { moves = clock t (λ f. seeds) ∷ []; allowed = ((k.later, reseeds _ _ k.setting.seeds_ok), tt); end = refl; makes = refl }
      go OverQuota e = record { moves = clock t (λ f. seeds) ∷ []; allowed = ((k.later, reseeds _ _ k.setting.seeds_ok), tt); end = refl; makes = refl }
  performed_moves st (done t b th) k =
      record {
        moves = clock t (λ f. seeds) ∷ renew (reported s (turned s st t) b th).state ∷ [];
        allowed = ((k.later, reseeds _ _ k.setting.seeds_ok), (reported_same s (turned s st t) b th (turned_long s st t k.long), tt));
        end = refl;
        makes = refl;
      }
  performed_moves st (index t b th) k = record { moves = clock t (λ f. seeds) ∷ []; allowed = ((k.later, reseeds _ _ k.setting.seeds_ok), tt); end = refl; makes = refl }

  refused_moves : (st : State) (c : Call) (r : Refusal) → ByMoves st c (record { reply = refused r; state = st })
  refused_moves st (request t b th x) r = no_moves s (owned seeds st)
  refused_moves st (done t b th) r = no_moves s (owned seeds st)
  refused_moves st (index t b th) r = no_moves s (owned seeds st)

  pub step_moves : (st : State) (c : Call) → ByMoves st c (step p s seeds st c)
  unfolding step
  step_moves st c =
      by_refusal (ByMoves st c) (refusal_of p.limits s seeds st c) st (performed p s (λ f. seeds) st c)
      (λ e. performed_moves st c (call_taken p.limits s seeds st c e)) (refused_moves st c (refusal_of p.limits s seeds st c))

  pub run_moves : (cs : List Call) (st : State) → Moves s (owned seeds st) (owned seeds (after p s seeds st cs)) (activations cs (replies p s seeds st cs))
  run_moves [] st = no_moves s (owned seeds st)
  run_moves (c ∷ cs) st = and_then s (step_moves st c) (run_moves cs (step p s seeds st c).state)
