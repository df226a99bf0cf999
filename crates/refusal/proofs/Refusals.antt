-- The refusals of a call, test by test.
use Rattle.std.proofs.Common.{◌≡◌, ℕ, ◌<◌, ◌≤◌, Bool, true, false, not, ◌||◌, ltb, leb, ◌≢◌, List, length, sym, refl, ◌∙◌, arith, nltb→le}
use lib.Dec.{nleb→lt}
use Rattle.head.specs.declared.Head.{Head}
use Rattle.rules.specs.declared.Setting.{Setting}
use Rattle.rules.specs.declared.Limits.{Limits}
use Rattle.rules.specs.Answers.{Refusal, none, short_buffer, bad_memory, outside_setting, refusal_number, refuse, or_else}
use Rattle.rules.specs.Setting.{history_length, setting_refusal}
use Rattle.rules.specs.State.{State, counters_used, threads_used, too_short}
use Rattle.rules.specs.History.{memory_ok}
use Rattle.rules.specs.Tested.{Accepted}
use Rattle.rules.specs.Calls.{setup_refusal, call_refusal, done_refusal}
use Rattle.rules.proofs.Tests.{not_or}
use Rattle.rules.proofs.Accept.{first_refusal, or_else_none, refuse_none, accepted}
use Rattle.refusal.specs.Memory.{memory_test}
use Rattle.refusal.specs.Lengths.{short_test}
use Rattle.refusal.specs.Tests.{place_refusal, setup_test, lent_test, call_test, done_test}
pub use Rattle.refusal.proofs.lengths.Order.{or_else_first, or_else_second}

-- ---- the order

-- a refusal and nothing after it
pub or_else_nothing : (a : Refusal) → or_else a none ≡ a
or_else_nothing a = first_refusal (λ x. x ≡ a) a none (λ e. sym e) (λ h. refl)

-- a test and what comes after it, in two parts
pub refuse_parts : (a : Refusal) (q : Bool) (r b : Refusal) → refusal_number r ≢ 0 → or_else a (refuse q r b) ≡ or_else (or_else a (refuse q r none)) b
refuse_parts a q r b h = first_refusal (λ x. x ≡ or_else (or_else a (refuse q r none)) b) a (refuse q r b) (λ e. rw e (later q)) some
  where
    later : (q : Bool) → refuse q r b ≡ or_else (refuse q r none) b
    later true = sym (or_else_first r b h)
    later false = refl

    some : 0 < refusal_number a → a ≡ or_else (or_else a (refuse q r none)) b
    some k =
        let number : refusal_number a ≢ 0 = λ z. omega arith in
        rw (or_else_first a (refuse q r none) number, or_else_first a b number)

-- ---- the rules' refusals of a state are these tests of its parts

module _ (m : Limits) (s : Setting) (seeds : List ℕ) (st : State) where
  pub setup_test_lem : setup_refusal m s seeds st ≡ setup_test m s seeds (length st.counters) (length st.ticks) (length st.rows) (length st.threads)
  unfolding setup_refusal too_short setup_test short_test
  setup_test_lem = refl

  pub call_test_lem : (tick bank thread : ℕ)
      → call_refusal m s seeds st tick bank thread
      ≡ call_test m s seeds st.head (length st.counters) st.ticks (length st.rows) (length st.threads) tick bank thread
  unfolding call_refusal call_test lent_test too_short setup_test short_test memory_ok memory_test place_refusal
  call_test_lem tick bank thread =
      let short = short_test s (length st.counters) (length st.ticks) (length st.rows) (length st.threads) in
      let bad = not (memory_test s st.head st.ticks) in
      let place = place_refusal s st.head.last tick bank thread in
      refuse_parts (setting_refusal m s seeds) short short_buffer (refuse bad bad_memory place) (λ z. omega arith)
      ∙ refuse_parts (or_else (setting_refusal m s seeds) (refuse short short_buffer none)) bad bad_memory place (λ z. omega arith)

  pub done_test_lem : (tick bank thread : ℕ)
      → done_refusal m s seeds st tick bank thread
      ≡ done_test m s seeds st.head (length st.counters) st.ticks (length st.rows) st.threads tick bank thread
  unfolding done_refusal done_test
  done_test_lem tick bank thread = rw (call_test_lem tick bank thread)

-- ---- refusals 1 to 7 and 16 of what is lent

module _ (m : Limits) (s : Setting) (seeds : List ℕ) (h : Head) (counters : ℕ) (ticks : List ℕ) (rows threads : ℕ) where
  -- set-up has none but 1 to 6 and 16
  pub lent_setup : lent_test m s seeds h counters ticks rows threads false ≡ setup_test m s seeds counters (length ticks) rows threads
  unfolding lent_test
  lent_setup = or_else_nothing (setup_test m s seeds counters (length ticks) rows threads)

-- ---- what the tests that are passed tell

-- of refusals 1 to 6 and 16
pub record Lengths (m : Limits) (s : Setting) (seeds : List ℕ) (ticks threads : ℕ) : Type 0 where
  pub setting : Accepted m s seeds
  pub ticks_long : history_length s ≤ ticks
  pub threads_long : threads_used s ≤ threads

pub tested_setup : (m : Limits) (s : Setting) (seeds : List ℕ) (counters ticks rows threads : ℕ)
    → setup_test m s seeds counters ticks rows threads ≡ none → Lengths m s seeds ticks threads
unfolding setup_test short_test
tested_setup m s seeds counters ticks rows threads e =
    let r = or_else_none (setting_refusal m s seeds) _ e in
    let q = refuse_none (short_test s counters ticks rows threads) short_buffer none (omega arith) r.1 in
    let a = ltb counters (counters_used s) in
    let b = ltb ticks (history_length s) in
    let c = ltb rows (history_length s) in
    let d = ltb threads (threads_used s) in
    let n3 = not_or (a || b || c) d q.0 in
    let n1 = not_or a b (not_or (a || b) c n3.0).0 in
    record {
      setting = accepted m s seeds r.0;
      ticks_long = nltb→le ticks (history_length s) n1.1;
      threads_long = nltb→le threads (threads_used s) n3.1;
    }

-- of refusals 1 to 9 and 16
pub record Tested (m : Limits) (s : Setting) (seeds : List ℕ) (threads bank thread : ℕ) : Type 0 where
  pub setting : Accepted m s seeds
  pub threads_long : threads_used s ≤ threads
  pub bank_in : bank < s.banks
  pub thread_in : thread < s.threads

pub tested_call : (m : Limits) (s : Setting) (seeds : List ℕ) (h : Head) (counters : ℕ) (ticks : List ℕ) (rows threads tick bank thread : ℕ)
    → call_test m s seeds h counters ticks rows threads tick bank thread ≡ none → Tested m s seeds threads bank thread
unfolding call_test lent_test place_refusal
tested_call m s seeds h counters ticks rows threads tick bank thread e =
    let r7 = or_else_none (lent_test m s seeds h counters ticks rows threads true) _ e in
    let r6 = or_else_none (setup_test m s seeds counters (length ticks) rows threads) _ r7.0 in
    let r8 = refuse_none (leb s.banks bank || leb s.threads thread) outside_setting _ (omega arith) r7.1 in
    let n8 = not_or (leb s.banks bank) (leb s.threads thread) r8.0 in
    let k = tested_setup m s seeds counters (length ticks) rows threads r6.0 in
    record {
      setting = k.setting;
      threads_long = k.threads_long;
      bank_in = nleb→lt s.banks bank n8.0;
      thread_in = nleb→lt s.threads thread n8.1;
    }
