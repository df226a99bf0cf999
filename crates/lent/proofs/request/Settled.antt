-- What an exported call leaves, refused or not, at the limits m of any width.
use Prim.Native.Nat.{ℕ, ◌+◌, ◌<◌}
use mathlib.Core.Path.{◌≡◌, refl, sym, ap, ap₂, ◌∙◌}
use mathlib.Core.Logic.{◌≢◌}
use mathlib.Core.List.{List, [], ◌∷◌, map}
use mathlib.Core.Bool.{Bool}
use native.Mathlib.Omega.{arith}
use lib.ListN.{length, get_or}
use Rattle.std.proofs.lemmas.List.{length-map}
use Rattle.std.specs.Prelude.{Result, Ok, Err, IfOk, IsErrAnd}
use Rattle.head.specs.declared.Head.{Head}
use Rattle.head.specs.Head.{moved_head}
use Rattle.rules.specs.declared.Setting.{Setting}
use Rattle.rules.specs.declared.Limits.{Limits}
use Rattle.rules.specs.declared.Decision.{Decision}
use Rattle.rules.specs.declared.Decision.TheVariants.{Open, Hold, OverQuota}
use Rattle.rules.specs.declared.Answer.{Answer}
use Rattle.rules.specs.Answers as rules
use Rattle.rules.specs.Answers.{none, refusal_number, answer_number, answer_wait, answer_left}
use Rattle.rules.specs.Setting.{setting_of, index_scale}
use Rattle.rules.specs.State.{State, state, counters_used, threads_used, head_of, head_words, fresh}
use Rattle.rules.specs.Clock.{epoch, active_filter, turned_counters, turned_threads, turned}
use Rattle.rules.specs.Hash.{places}
use Rattle.rules.specs.Quota.{index_counter}
use Rattle.rules.specs.Policy.{in_force}
use Rattle.rules.specs.Decision.{decide, activated, answer_of}
use Rattle.rules.specs.Calls.{request, done, index, Reply, refused, answered, finished, shown, after_decision, Outcome, outcome, one_less, setup, setup_refusal, call_refusal, done_refusal, unless_refused, requested, reported, index_shown, step}
use Rattle.rules.proofs.Accept.{number_none, taken}
use Rattle.rules.proofs.Cells.{get_or_cells}
use Rattle.rules.proofs.Step.{unless_taken, unless_refused_lem}
use Rattle.refused.specs.declared.Refusal.{Refusal}
use Rattle.refused.specs.Numbers.{number_of, code_of}
use Rattle.refused.specs.Passed.{passed}
use Rattle.refused.proofs.Laws.{code_passed, number_some, passed_err}
use Rattle.refusal.specs.Tests.{call_test}
use Rattle.refusal.proofs.Refusals.{call_test_lem}
use Rattle.interface.specs.Left.{Left, left, found, leaves}

-- a call that is refused with r, whose number is c, gives it and leaves all as it was
left_unless : (r : rules.Refusal) (o : Outcome) (c : ℕ) (out words counters ticks rows threads : List ℕ)
    → c ≡ refusal_number r → refusal_number r ≢ 0
    → left c out words counters ticks rows threads ≡ leaves (unless_refused r (found words counters ticks rows threads) o) out words
unfolding leaves
left_unless r o c out words counters ticks rows threads e h = rw (unless_refused_lem r (found words counters ticks rows threads) o h, e)

-- the same, by the name of the refusal that the tests give
pub left_refused : (r : rules.Refusal) (o : Outcome) (x y : Refusal) (out words counters ticks rows threads : List ℕ)
    → passed r ≡ Err x → y ≡ x
    → left (number_of y) out words counters ticks rows threads ≡ leaves (unless_refused r (found words counters ticks rows threads) o) out words
left_refused r o x y out words counters ticks rows threads e h =
    left_unless r o (number_of y) out words counters ticks rows threads (ap number_of h ∙ sym (ap code_of e) ∙ code_passed r) (passed_err r x e)

-- the number of what is given back
pub code_up : {A : Type 0} (r : rules.Refusal) (back : Result A Refusal) (x : Refusal) → passed r ≡ Err x → IsErrAnd back (λ y. y ≡ x)
    → code_of back ≡ refusal_number r
code_up r (Ok a) x e h = absurd h
code_up r (Err y) x e h = ap number_of h ∙ sym (ap code_of e) ∙ code_passed r

-- what holds of a value holds of none where a call is refused
pub not_ok : {A : Type 0} (back : Result A Refusal) (x : Refusal) (P : A → Type 0) → IsErrAnd back (λ y. y ≡ x) → IfOk back P
not_ok (Ok a) x P h = absurd h
not_ok (Err y) x P h = tt

-- a head whose clock was moved, by its own last tick
pub moved_alone : (x h : Head) (t : ℕ) → h ≡ moved_head x t → h ≡ moved_head x h.last
unfolding moved_head
moved_alone x h t e = e ∙ ap (λ u. moved_head x u) (sym (ap (λ y. y.last) e))

-- the word of a bank is its cell of the head
pub bank_word : (words : List ℕ) (bank : ℕ) → bank < 16 → get_or words (2 + bank) 0 ≡ get_or (head_of words).bank bank 0
unfolding head_of
bank_word words bank h = sym (get_or_cells words 2 16 bank h)

-- the number of a reply's answer
abbrev reply_number : Reply → ℕ
reply_number (refused r) = 0
reply_number (answered a) = answer_number a
reply_number finished = 0
reply_number (shown c scale quota) = 0

-- ---- the four calls

module _ (m : Limits) (s : Setting) (seeds words counters ticks rows threads : List ℕ) where
  abbrev before : State
  before = found words counters ticks rows threads

  -- set-up that is not refused
  pub left_setup : setup_refusal m s seeds before ≡ none → (z : State) → z ≡ fresh s before
      → left 0 [] (head_words z.head) z.counters z.ticks z.rows z.threads ≡ leaves (setup m s seeds before) [] words
  unfolding leaves setup
  left_setup e z ez =
      ap (λ o. leaves o [] words) (ap (outcome finished) ez ∙ sym (unless_taken (setup_refusal m s seeds before) before (outcome finished (fresh s before)) (ap refusal_number e)))

  -- a request that is not refused and opens no row moves the clock alone
  pub held : (tick bank thread row : ℕ) (a : Answer) (z : State)
      → outcome (answered a) z ≡ requested (in_force m) s (λ f. places seeds row) (turned s before tick) bank thread row
      → answer_number a ≢ 0 → z.head ≡ moved_head (head_of words) z.head.last
  unfolding requested turned
  held tick bank thread row a z e n =
      let at : ℕ → List ℕ = λ f. places seeds row in
      let moved = turned s before tick in
      moved_alone (head_of words) z.head tick
      (ap (λ o. o.state.head) e ∙ go (decide (in_force m) s at moved bank thread row) _ (λ k. n (ap (λ o. reply_number o.reply) e ∙ k)))
    where
      go : (d : Decision) (left : ℕ) → answer_number (answer_of d left) ≢ 0
          → (after_decision d (turned s before tick) (activated s (λ f. places seeds row) (turned s before tick) bank thread row)).head ≡ moved_head (head_of words) tick
      go Open left k = absurd (k refl)
      go (Hold c u) left k = refl
      go OverQuota left k = refl

  -- a request that is not refused
  pub left_request : (tick bank thread row : ℕ) (out : List ℕ) → call_refusal m s seeds before tick bank thread ≡ none
      → (a : Answer) (z : State) → outcome (answered a) z ≡ requested (in_force m) s (λ f. places seeds row) (turned s before tick) bank thread row
      → left 0 (answer_number a ∷ answer_wait a ∷ answer_left a ∷ []) (head_words z.head) z.counters z.ticks z.rows z.threads
      ≡ leaves (step (in_force m) s seeds before (request tick bank thread row)) out words
  unfolding leaves step
  left_request tick bank thread row out e a z ez =
      ap (λ o. leaves o out words) (ez ∙ sym (unless_taken (call_refusal m s seeds before tick bank thread) before (requested (in_force m) s (λ f. places seeds row) (turned s before tick) bank thread row) (ap refusal_number e)))

  -- a done that is not refused
  pub left_done : (tick bank thread : ℕ) → done_refusal m s seeds before tick bank thread ≡ none
      → (h : Head) (c th : List ℕ) → h ≡ moved_head (head_of words) tick
      → c ≡ turned_counters (counters_used s) (epoch s (head_of words).last) (epoch s tick) counters
      → th ≡ one_less s bank thread (turned_threads (threads_used s) (epoch s (head_of words).last) (epoch s tick) threads)
      → left 0 [] (head_words h) c ticks rows th ≡ leaves (step (in_force m) s seeds before (done tick bank thread)) [] words
  unfolding leaves step reported turned
  left_done tick bank thread e h c th eh ec eth =
      rw (unless_taken (done_refusal m s seeds before tick bank thread) before (reported s (turned s before tick) bank thread) (ap refusal_number e), eh, ec, eth)

  -- an index reading that is not refused
  pub left_index : (tick bank thread : ℕ) (out : List ℕ) → call_refusal m s seeds before tick bank thread ≡ none
      → (h : Head) (c th : List ℕ) (count scale quota : ℕ) → h ≡ moved_head (head_of words) tick
      → c ≡ turned_counters (counters_used s) (epoch s (head_of words).last) (epoch s tick) counters
      → th ≡ turned_threads (threads_used s) (epoch s (head_of words).last) (epoch s tick) threads
      → count ≡ index_counter s th bank thread (active_filter s tick) → scale ≡ index_scale s → quota ≡ (in_force m).quota s count
      → left 0 (count ∷ scale ∷ quota ∷ []) (head_words h) c ticks rows th ≡ leaves (step (in_force m) s seeds before (index tick bank thread)) out words
  unfolding leaves step index_shown turned moved_head
  left_index tick bank thread out e h c th count scale quota eh ec eth en es eq =
      rw (unless_taken (call_refusal m s seeds before tick bank thread) before (index_shown (in_force m) s (turned s before tick) bank thread) (ap refusal_number e), eq, es, en, eh, ec, eth)

-- ---- a request on the caller's memory, from the tests on

-- what it is asked with, at the limits m
pub record Asks (m : Limits) : Type 0 where
  pub setting : List ℕ
  pub seeds : List ℕ
  pub words : List ℕ
  pub counters : List ℕ
  pub ticks : List ℕ
  pub rows : List ℕ
  pub threads : List ℕ
  pub tick : ℕ
  pub bank : ℕ
  pub thread : ℕ
  pub row : ℕ
  pub out : List ℕ

abbrev pub asks : (m : Limits) (setting seeds words counters ticks rows threads : List ℕ) (tick bank thread row : ℕ) (out : List ℕ) → Asks m
asks m setting seeds words counters ticks rows threads tick bank thread row out =
    record {
      setting = setting;
      seeds = seeds;
      words = words;
      counters = counters;
      ticks = ticks;
      rows = rows;
      threads = threads;
      tick = tick;
      bank = bank;
      thread = thread;
      row = row;
      out = out;
    }

module _ {m : Limits} (q : Asks m) where
  abbrev s : Setting
  s = setting_of q.setting

  abbrev entry : State
  entry = found q.words q.counters q.ticks q.rows q.threads

  -- what the rules perform and what they leave
  abbrev performs : Outcome
  performs = requested (in_force m) s (λ f. places q.seeds q.row) (turned s entry q.tick) q.bank q.thread q.row

  abbrev left_by : Left
  left_by = leaves (step (in_force m) s q.seeds entry (request q.tick q.bank q.thread q.row)) q.out q.words

  -- what the tests gave, at limits that are m
  module _ (l : Limits) (t : Result Bool Refusal) (el : l ≡ m)
      (e : code_of t ≡ refusal_number (call_test l s q.seeds (head_of q.words) (length q.counters) q.ticks (length q.rows) (length q.threads) q.tick q.bank q.thread)) where
    code_is : code_of t ≡ refusal_number (call_refusal m s q.seeds entry q.tick q.bank q.thread)
    code_is = (rw el at e) ∙ ap refusal_number (sym (call_test_lem m s q.seeds entry q.tick q.bank q.thread))

    pub request_refused : (back : Result (Unit {0}) Refusal) (x : Refusal) → t ≡ Err x → IsErrAnd back (λ y. y ≡ x)
        → left (code_of back) q.out q.words q.counters q.ticks q.rows q.threads ≡ left_by
    unfolding step
    request_refused (Ok u) x z h = absurd h
    request_refused (Err y) x z h =
        let number : number_of x ≡ refusal_number (call_refusal m s q.seeds entry q.tick q.bank q.thread) = sym (ap code_of z) ∙ code_is in
        left_unless (call_refusal m s q.seeds entry q.tick q.bank q.thread) performs (number_of y) q.out q.words q.counters q.ticks q.rows q.threads
        (ap number_of h ∙ number) (λ k. number_some x (number ∙ k))

    module _ (table : Bool) (z : t ≡ Ok table) where
      free : call_refusal m s q.seeds entry q.tick q.bank q.thread ≡ none
      free = number_none _ (sym code_is ∙ ap code_of z)

      -- the bank is one of the head's sixteen
      pub in_head : q.bank < 16
      in_head =
          let k = taken m s q.seeds entry q.tick q.bank q.thread free in
          omega (arith, k.bank_in, k.setting.ranges.banks_high)

      -- with the setting and the head that were loaded
      module _ (σ : Setting) (h : Head) (es : σ ≡ s) (eh : h ≡ head_of q.words) where
        pub request_free : call_refusal m σ q.seeds (state h q.counters q.ticks q.rows q.threads) q.tick q.bank q.thread ≡ none
        request_free =
            ap₂ (λ x y. call_refusal m x q.seeds (state y q.counters q.ticks q.rows q.threads) q.tick q.bank q.thread) es eh ∙ free

        -- what the request answers and leaves
        module _ (a : Answer) (after : State)
            (eo : outcome (answered a) after ≡ requested (in_force m) σ (λ f. places q.seeds q.row) (turned σ (state h q.counters q.ticks q.rows q.threads) q.tick) q.bank q.thread q.row) where
          answers : outcome (answered a) after ≡ performs
          answers =
              eo
              ∙ ap₂ (λ x y. requested (in_force m) x (λ f. places q.seeds q.row) (turned x (state y q.counters q.ticks q.rows q.threads) q.tick) q.bank q.thread q.row) es eh

          pub request_held : answer_number a ≢ 0 → after.head ≡ moved_head (head_of q.words) after.head.last
          request_held = held m s q.seeds q.words q.counters q.ticks q.rows q.threads q.tick q.bank q.thread q.row a after answers

          pub request_left : left 0 (answer_number a ∷ answer_wait a ∷ answer_left a ∷ []) (head_words after.head) after.counters after.ticks after.rows after.threads ≡ left_by
          request_left =
              left_request m s q.seeds q.words q.counters q.ticks q.rows q.threads q.tick q.bank q.thread q.row q.out free a after answers

-- A request that the tests refuse, in the words of the contract of `tested`, with counters of any width: the number is given and all is left as it was.
pub request_told : {A : Type 0} (value : A → ℕ) (m l : Limits) (setting seeds words ticks rows threads out : List ℕ) (counters : List A)
    (tick bank thread row : ℕ) (t : Result Bool Refusal) (r : Refusal) → l ≡ m
    → code_of t ≡ refusal_number (call_test l (setting_of setting) seeds (head_of words) (length counters) ticks (length rows) (length threads) tick bank thread)
    → t ≡ Err r
    → left (number_of r) out words (map value counters) ticks rows threads
    ≡ leaves (step (in_force m) (setting_of setting) seeds (found words (map value counters) ticks rows threads) (request tick bank thread row)) out words
request_told value m l setting seeds words ticks rows threads out counters tick bank thread row t r el e z =
    let q = asks m setting seeds words (map value counters) ticks rows threads tick bank thread row out in
    request_refused q l t el (rw (sym (length-map counters value)) at e) (Err r) r z refl
