-- The four calls, their refusals 6 to 10, and a run over a list of calls.
use Rattle.std.specs.Prelude.{List, [], ◌∷◌, ◌++◌, Bool, not, ◌&&◌, ◌||◌, cond, ℕ, ◌+◌, ◌-◌, ◌^◌, leb, ltb, eqb, get_or, set}
use Rattle.rules.specs.declared.Setting.{Setting}
use Rattle.rules.specs.declared.Limits.{Limits}
use Rattle.rules.specs.declared.Decision.{Decision}
use Rattle.rules.specs.declared.Answer.{Answer}
use Rattle.rules.specs.declared.Answer.TheVariants.{Opened, Wait, Quota}
use Rattle.rules.specs.Cells.{count}
use Rattle.rules.specs.Answers.{Refusal, none, short_buffer, bad_memory, outside_setting, bad_tick, none_in_flight, refusal_number, refuse, or_else, answer_number, answer_wait, answer_left}
use Rattle.rules.specs.Setting.{index_scale, setting_refusal}
use Rattle.rules.specs.State.{State, thread_cell, too_short, fresh}
use Rattle.rules.specs.Clock.{active_filter, turned}
use Rattle.rules.specs.Hash.{places}
use Rattle.rules.specs.History.{memory_ok}
use Rattle.rules.specs.Quota.{index_counter}
use Rattle.rules.specs.Policy.{Policy}
use Rattle.rules.specs.Decision.{decide, activated, openings_left, opens, answer_of}

-- "Four calls: set up, request a row, report a request done, read a thread's index." Set-up stands before the list of the others.
pub data Call : Type 0 where
  request : (tick bank thread row : ℕ) → Call
  done : (tick bank thread : ℕ) → Call
  index : (tick bank thread : ℕ) → Call

-- what a call gives back
pub data Reply : Type 0 where
  refused : Refusal → Reply
  answered : Answer → Reply
  finished : Reply
  shown : (c scale quota : ℕ) → Reply

-- "It returns its number only": 0 where the call is answered
abbrev pub return_code : Reply → ℕ
return_code (refused r) = refusal_number r
return_code (answered a) = 0
return_code finished = 0
return_code (shown c scale quota) = 0

-- the words that a call writes for the caller; a refused call and a done write none
abbrev pub out_words : Reply → List ℕ → List ℕ
out_words (refused r) out = out
out_words (answered a) out = answer_number a ∷ answer_wait a ∷ answer_left a ∷ []
out_words finished out = out
out_words (shown c scale quota) out = c ∷ scale ∷ quota ∷ []

pub record Outcome : Type 0 where
  pub reply : Reply
  pub state : State

abbrev pub outcome : Reply → State → Outcome
outcome reply st = record { reply = reply; state = st }

-- "Set-up has no 7 to 10."
unfoldable pub setup_refusal : Limits → Setting → List ℕ → State → Refusal
setup_refusal m s seeds st = or_else (setting_refusal m s seeds) (refuse (too_short s st) short_buffer none)

-- refusals 1 to 5, 16, 6 to 9 of a call with a tick, a bank and a thread
unfoldable pub call_refusal : Limits → Setting → List ℕ → State → ℕ → ℕ → ℕ → Refusal
call_refusal m s seeds st tick bank thread =
    or_else (setting_refusal m s seeds)
    (refuse (too_short s st) short_buffer
    (refuse (not (memory_ok s st)) bad_memory
    (refuse (leb s.banks bank || leb s.threads thread) outside_setting
    (refuse (ltb tick st.head.last || leb (2 ^ 62) tick) bad_tick none))))

-- and 10, by the bank's own count: document 02, b: "refused with 10 exactly if that bank has none of the thread's requests"
unfoldable pub done_refusal : Limits → Setting → List ℕ → State → ℕ → ℕ → ℕ → Refusal
done_refusal m s seeds st tick bank thread =
    or_else (call_refusal m s seeds st tick bank thread)
    (refuse (eqb (get_or st.threads (thread_cell s bank thread 2) 0) 0) none_in_flight none)

-- "It returns its number only and changes nothing."
unfoldable pub unless_refused : Refusal → State → Outcome → Outcome
unless_refused r st o = cond (eqb (refusal_number r) 0) o (record { reply = refused r; state = st })

-- the state after a decision: only an activation changes it
abbrev pub after_decision : Decision → State → State → State
after_decision d before opened = cond (opens d) opened before

-- set-up: "Set-up clears the used parts and the head"
unfoldable pub setup : Limits → Setting → List ℕ → State → Outcome
setup m s seeds st = unless_refused (setup_refusal m s seeds st) st (record { reply = finished; state = fresh s st })

-- A request on the state turned to its tick; at f gives the row's places in filter f. The openings left are those after the activation.
unfoldable pub requested : Policy → Setting → (ℕ → List ℕ) → State → ℕ → ℕ → ℕ → Outcome
requested p s at st bank thread row =
    let d = decide p s at st bank thread row in
    let opened = activated s at st bank thread row in
    record { reply = answered (answer_of d (openings_left s at opened bank)); state = after_decision d st opened }

-- "a done takes 1 from in flight": of its bank, and so "Done for a bank lowers the total" (document 02, b)
abbrev pub one_less : Setting → ℕ → ℕ → List ℕ → List ℕ
one_less s bank thread ts = set ts (thread_cell s bank thread 2) (get_or ts (thread_cell s bank thread 2) 0 - 1)

unfoldable pub reported : Setting → State → ℕ → ℕ → Outcome
reported s st bank thread =
    record {
      reply = finished;
      state = record {
        head = st.head;
        counters = st.counters;
        ticks = st.ticks;
        rows = st.rows;
        threads = one_less s bank thread st.threads;
      };
    }

-- "the index answers c, D and the quota"
unfoldable pub index_shown : Policy → Setting → State → ℕ → ℕ → Outcome
index_shown p s st bank thread =
    let c = index_counter s st.threads bank thread (active_filter s st.head.last) in
    record { reply = shown c (index_scale s) (p.quota s c); state = st }

-- the tick, the bank and the thread that a call names
abbrev pub call_tick : Call → ℕ
call_tick (request t b th r) = t
call_tick (done t b th) = t
call_tick (index t b th) = t

abbrev pub call_bank : Call → ℕ
call_bank (request t b th r) = b
call_bank (done t b th) = b
call_bank (index t b th) = b

abbrev pub call_thread : Call → ℕ
call_thread (request t b th r) = th
call_thread (done t b th) = th
call_thread (index t b th) = th

-- what a call that is not refused does: "A call that is not refused moves the last tick to its tick t."
-- own f are the seeds of filter f once the clock has moved
abbrev pub performed : Policy → Setting → (ℕ → List ℕ) → State → Call → Outcome
performed p s own st (request t b th r) = requested p s (λ f. places (own f) r) (turned s st t) b th r
performed p s own st (done t b th) = reported s (turned s st t) b th
performed p s own st (index t b th) = index_shown p s (turned s st t) b th

-- the refusal of a call, none where it is answered
abbrev pub refusal_of : Limits → Setting → List ℕ → State → Call → Refusal
refusal_of m s seeds st (request t b th r) = call_refusal m s seeds st t b th
refusal_of m s seeds st (done t b th) = done_refusal m s seeds st t b th
refusal_of m s seeds st (index t b th) = call_refusal m s seeds st t b th

-- one call: a refusal, or what is performed
unfoldable pub step : Policy → Setting → List ℕ → State → Call → Outcome
step p s seeds st c = unless_refused (refusal_of p.limits s seeds st c) st (performed p s (λ f. seeds) st c)

-- the replies of a list of calls, refused ones included, and the state that it leaves
abbrev pub replies : Policy → Setting → List ℕ → State → List Call → List Reply
replies p s seeds st [] = []
replies p s seeds st (c ∷ cs) = (step p s seeds st c).reply ∷ replies p s seeds (step p s seeds st c).state cs

abbrev pub after : Policy → Setting → List ℕ → State → List Call → State
after p s seeds st [] = st
after p s seeds st (c ∷ cs) = after p s seeds (step p s seeds st c).state cs

-- an activation (document 01: an opening)
pub record Activation : Type 0 where
  pub tick : ℕ
  pub bank : ℕ
  pub thread : ℕ
  pub row : ℕ

-- "an opening is a request of the list answered opened, at that request's tick"
abbrev pub activation_of : Call → Reply → List Activation
activation_of (request t b th r) (answered (Opened left)) = record { tick = t; bank = b; thread = th; row = r } ∷ []
activation_of (request t b th r) (answered (Wait c u)) = []
activation_of (request t b th r) (answered Quota) = []
activation_of (request t b th r) (refused n) = []
activation_of (request t b th r) finished = []
activation_of (request t b th r) (shown c d q) = []
activation_of (done t b th) reply = []
activation_of (index t b th) reply = []

-- the activations of a run, read off its replies, in the order of the list
abbrev pub activations : List Call → List Reply → List Activation
activations [] rs = []
activations (c ∷ cs) [] = []
activations (c ∷ cs) (r ∷ rs) = activation_of c r ++ activations cs rs

-- an activation of this row of this bank
abbrev pub of_row : ℕ → ℕ → Activation → Bool
of_row bank row o = eqb o.bank bank && eqb o.row row

-- "W successive ticks are s to s + W − 1": the tick is one of the x ticks from start on
abbrev pub in_span : ℕ → ℕ → ℕ → Bool
in_span start x tick = leb start tick && ltb tick (start + x)

-- how often the row was activated in the x ticks from start on
abbrev pub times_activated : ℕ → ℕ → ℕ → ℕ → List Activation → ℕ
times_activated bank row start x os = count (λ o. of_row bank row o && in_span start x o.tick) os
