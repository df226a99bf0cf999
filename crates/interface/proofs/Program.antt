-- What a C program sees of its calls is what a run of the rules does: its openings are the activations, its memory holds the state. So demand 3 holds
-- of the openings.
use mathlib.Core.Path.{◌≡◌, refl, sym, ap, ap₂, ◌∙◌, subst}
use mathlib.Core.List.{List, [], ◌∷◌, ◌++◌}
use mathlib.Core.Bool.{Bool, true, false, cond}
use Prim.Native.Nat.{ℕ, ◌≤◌}
use lib.Dec.{eqb}
use Rattle.rules.specs.declared.Setting.{Setting}
use Rattle.rules.specs.declared.Cause.TheVariants.{Bank, Rank, Row}
use Rattle.rules.specs.declared.Answer.{Answer}
use Rattle.rules.specs.declared.Answer.TheVariants.{Opened, Wait, Quota}
use Rattle.rules.specs.Answers.{Refusal, none, refusal_number}
use Rattle.rules.specs.Setting.{setting_of}
use Rattle.rules.specs.State.{State, head_words, fresh}
use Rattle.rules.specs.Clock.{turned}
use Rattle.rules.specs.Hash.{places}
use Rattle.rules.specs.Decision.{decide, activated, openings_left, answer_of}
use Rattle.rules.specs.Policy.{Policy}
use Rattle.rules.specs.Calls.{Call, request, done, index, refused, answered, finished, Outcome, outcome, setup, setup_refusal, refusal_of, unless_refused, requested, reported, index_shown, performed, step, replies, activation_of, activations, times_activated}
use Rattle.rules.specs.Claims.{span_bound}
use Rattle.rules.proofs.Accept.{number_none}
use Rattle.rules.proofs.Step.{setup_code, unless_taken}
use Rattle.rules.proofs.Theorems.{theorems as rules}
use Rattle.interface.specs.Left.{Left, found, leaves}
use Rattle.interface.specs.Claims.{Lent, Asked, asks_request, asks_done, asks_index, call_of, out_of, found_in, left_by_setup, left_by, lent_after, left_by_all, opening_of, openings, SpansForC, Demand3ForC}
use Rattle.interface.proofs.Heads.{Shape, words_back, head_shape, fresh_shape, performed_shape}

-- the state found in what a head and buffers leave
found_back : (st : State) → Shape st.head → found (head_words st.head) st.counters st.ticks st.rows st.threads ≡ st
found_back st h = λ k. record { head = words_back st.head h k; counters = st.counters; ticks = st.ticks; rows = st.rows; threads = st.threads }

-- ---- a call

-- what a call leaves tells its opening and holds its state
pub record Seen (c : Asked) (l : Left) (o : Outcome) : Type 0 where
  pub opening : opening_of c l ≡ activation_of (call_of c) o.reply
  pub state : found_in (lent_after l) ≡ o.state

answer_opening : (t b th r : ℕ) (out : List ℕ) (a : Answer) (st : State) (words : List ℕ)
    → opening_of (asks_request t b th r out) (leaves (outcome (answered a) st) out words) ≡ activation_of (request t b th r) (answered a)
unfolding leaves
answer_opening t b th r out (Opened left) st words = refl
answer_opening t b th r out (Wait Bank u) st words = refl
answer_opening t b th r out (Wait Rank u) st words = refl
answer_opening t b th r out (Wait Row u) st words = refl
answer_opening t b th r out Quota st words = refl

performed_seen : (p : Policy) (s : Setting) (seeds : List ℕ) (st : State) (c : Asked) (words : List ℕ) → Shape st.head
    → Seen c (leaves (performed p s (λ f. seeds) st (call_of c)) (out_of c) words) (performed p s (λ f. seeds) st (call_of c))
unfolding leaves requested reported index_shown
performed_seen p s seeds st (asks_request t b th r out) words h =
    record { opening = answer_opening t b th r out (answer_of (decide p s at moved b th r) (openings_left s at (activated s at moved b th r) b)) (performed p s (λ f. seeds) st (request t b th r)).state words; state = found_back _ (performed_shape p s (λ f. seeds) st (request t b th r) h) }
  where
    at : ℕ → List ℕ
    at f = places seeds r

    moved : State
    moved = turned s st t
performed_seen p s seeds st (asks_done t b th) words h =
    record { opening = refl; state = found_back _ (performed_shape p s (λ f. seeds) st (done t b th) h) }
performed_seen p s seeds st (asks_index t b th out) words h =
    record { opening = refl; state = found_back _ (performed_shape p s (λ f. seeds) st (index t b th) h) }

-- a refused call opens nothing, since its number is not 0
refused_seen : (c : Asked) (m : Lent) (r : Refusal) → eqb (refusal_number r) 0 ≡ false
    → Seen c (leaves (outcome (refused r) (found_in m)) (out_of c) m.head) (outcome (refused r) (found_in m))
unfolding leaves
refused_seen (asks_request t b th x out) m r e = record { opening = rw e; state = refl }
refused_seen (asks_done t b th) m r e = record { opening = refl; state = refl }
refused_seen (asks_index t b th out) m r e = record { opening = refl; state = refl }

pub step_seen : (p : Policy) (setting seeds : List ℕ) (m : Lent) (c : Asked)
    → Seen c (left_by p setting seeds m c) (step p (setting_of setting) seeds (found_in m) (call_of c))
unfolding step unless_refused
step_seen p setting seeds m c = go (eqb (refusal_number r) 0) refl
  where
    r : Refusal
    r = refusal_of p.limits (setting_of setting) seeds (found_in m) (call_of c)

    o : Bool → Outcome
    o q = cond q (performed p (setting_of setting) (λ f. seeds) (found_in m) (call_of c)) (outcome (refused r) (found_in m))

    go : (q : Bool) → eqb (refusal_number r) 0 ≡ q → Seen c (leaves (o q) (out_of c) m.head) (o q)
    go true e = performed_seen p (setting_of setting) seeds (found_in m) c m.head (head_shape m.head)
    go false e = refused_seen c m r e

-- ---- a list of calls

calls : List Asked → List Call
calls [] = []
calls (c ∷ cs) = call_of c ∷ calls cs

run_seen : (p : Policy) (setting seeds : List ℕ) (cs : List Asked) (m : Lent)
    → openings cs (left_by_all p setting seeds m cs) ≡ activations (calls cs) (replies p (setting_of setting) seeds (found_in m) (calls cs))
unfolding calls
run_seen p setting seeds [] m = refl
run_seen p setting seeds (c ∷ cs) m =
    let k = step_seen p setting seeds m c in
    ap₂ (λ x y. x ++ y) k.opening
    (run_seen p setting seeds cs (lent_after (left_by p setting seeds m c)) ∙ ap (λ st. activations (calls cs) (replies p (setting_of setting) seeds st (calls cs))) k.state)

-- ---- set-up

left_fresh : (s : Setting) (st : State) (words : List ℕ) → found_in (lent_after (leaves (outcome finished (fresh s st)) [] words)) ≡ fresh s st
unfolding leaves
left_fresh s st words = found_back (fresh s st) (fresh_shape s st)

module _ (p : Policy) (setting seeds : List ℕ) (m : Lent) (e : (left_by_setup p setting seeds m).code ≡ 0) where
  pub setup_free : setup_refusal p.limits (setting_of setting) seeds (found_in m) ≡ none
  unfolding leaves
  setup_free = number_none _ (sym (setup_code p.limits (setting_of setting) seeds (found_in m)) ∙ e)

  pub setup_found : found_in (lent_after (left_by_setup p setting seeds m)) ≡ fresh (setting_of setting) (found_in m)
  unfolding setup
  setup_found =
      let s = setting_of setting in
      ap (λ o. found_in (lent_after (leaves o [] m.head))) (unless_taken (setup_refusal p.limits s seeds (found_in m)) (found_in m) (outcome finished (fresh s (found_in m))) (ap refusal_number setup_free))
      ∙ left_fresh s (found_in m) m.head

  -- the openings after set-up are the activations of the rules' run
  run_from : (cs : List Asked)
      → openings cs (left_by_all p setting seeds (lent_after (left_by_setup p setting seeds m)) cs)
      ≡ activations (calls cs) (replies p (setting_of setting) seeds (fresh (setting_of setting) (found_in m)) (calls cs))
  run_from cs =
      run_seen p setting seeds cs (lent_after (left_by_setup p setting seeds m))
      ∙ ap (λ st. activations (calls cs) (replies p (setting_of setting) seeds st (calls cs))) setup_found

-- ---- the claims

pub spans_for_c : (p : Policy) → SpansForC p
spans_for_c p setting seeds m e cs bank row start x x1 =
    subst (λ os. times_activated bank row start x os ≤ span_bound (setting_of setting) x) (sym (run_from p setting seeds m e cs))
    (rules.spans p (setting_of setting) seeds (found_in m) (setup_free p setting seeds m e) (calls cs) bank row start x x1)

pub demand3_for_c : (p : Policy) → Demand3ForC p
demand3_for_c p setting seeds m e cs bank row start =
    subst (λ os. times_activated bank row start (setting_of setting).w os ≤ (setting_of setting).l) (sym (run_from p setting seeds m e cs))
    (rules.demand3 p (setting_of setting) seeds (found_in m) (setup_free p setting seeds m e) (calls cs) bank row start)
