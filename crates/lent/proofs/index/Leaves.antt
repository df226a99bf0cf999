-- What an index reading leaves, for counters of any contents that have the length which was given.
use Prim.Native.Nat.{ℕ, ◌%◌}
use mathlib.Core.Path.{◌≡◌, ap, ap₂, ◌∙◌}
use mathlib.Core.List.{List, [], ◌∷◌}
use lib.ListN.{length}
use Rattle.std.specs.Prelude.{Result, Ok, Err, IsErrAnd}
use Rattle.head.specs.declared.Head.{Head}
use Rattle.head.specs.Head.{moved_head}
use Rattle.rules.specs.declared.Setting.{Setting}
use Rattle.rules.specs.declared.Limits.{Limits}
use Rattle.rules.specs.Answers as rules
use Rattle.rules.specs.Answers.{none}
use Rattle.rules.specs.Setting.{index_scale}
use Rattle.rules.specs.State.{State, counters_used, threads_used, head_of, head_words}
use Rattle.rules.specs.Clock.{epoch, turned_counters, turned_threads, turned}
use Rattle.rules.specs.Quota.{index_counter, quota_even}
use Rattle.rules.specs.Policy.{in_force}
use Rattle.rules.specs.Tested.{Taken}
use Rattle.rules.specs.Calls.{index, call_refusal, index_shown, step}
use Rattle.rules.proofs.Accept.{taken}
use Rattle.refused.specs.declared.Refusal.{Refusal}
use Rattle.refused.specs.Numbers.{code_of}
use Rattle.refused.specs.Passed.{passed}
use Rattle.refusal.specs.Tests.{call_test}
use Rattle.refusal.proofs.Refusals.{call_test_lem}
use Rattle.interface.specs.Left.{left, found, leaves}
use Rattle.lent.specs.declared.done.Clocked.{Clocked}
use Rattle.lent.specs.Filters.{turned_by}
use Rattle.lent.proofs.request.Settled.{left_refused, left_index}
use Rattle.lent.proofs.request.Counters.{some, some_long, blank}

module _ (m : Limits) (s : Setting) (seeds words : List ℕ) (n : ℕ) (ticks rows threads : List ℕ) (tick bank thread : ℕ) where
  -- the state that the call finds, with these counters
  abbrev at : List ℕ → State
  at cs = found words cs ticks rows threads

  abbrev test : rules.Refusal
  test = call_test m s seeds (head_of words) n ticks (length rows) (length threads) tick bank thread

  -- no contents of the counters are tested
  index_is : (cs : List ℕ) → length cs ≡ n → call_refusal m s seeds (at cs) tick bank thread ≡ test
  index_is cs k =
      call_test_lem m s seeds (at cs) tick bank thread
      ∙ ap (λ x. call_test m s seeds (head_of words) x ticks (length rows) (length threads) tick bank thread) k

  pub index_refused : (out : List ℕ) (back : Result Clocked Refusal) (x : Refusal) → passed test ≡ Err x → IsErrAnd back (λ y. y ≡ x)
      → (cs : List ℕ) → length cs ≡ n
      → left (code_of back) out words (turned_by back cs) ticks rows threads ≡ leaves (step (in_force m) s seeds (at cs) (index tick bank thread)) out words
  unfolding step
  index_refused out (Ok clocked) x e h cs k = absurd h
  index_refused out (Err y) x e h cs k =
      left_refused (call_refusal m s seeds (at cs) tick bank thread) (index_shown (in_force m) s (turned s (at cs) tick) bank thread) x y out words cs ticks rows threads
      (ap passed (index_is cs k) ∙ e) h

  module _ (e : test ≡ none) where
    pub index_ok : Taken m s seeds (blank words n ticks rows threads) tick bank thread
    index_ok = taken m s seeds (at (some n)) tick bank thread (index_is (some n) (some_long n) ∙ e)

    pub index_done : (out : List ℕ) (h : Head) (threads' : List ℕ) (from to c scale quota : ℕ) → h ≡ moved_head (head_of words) tick
        → threads' ≡ turned_threads (threads_used s) (epoch s (head_of words).last) (epoch s tick) threads
        → from ≡ epoch s (head_of words).last → to ≡ epoch s tick
        → c ≡ index_counter s threads' bank thread (to % 2) → scale ≡ index_scale s → quota ≡ quota_even s c
        → (cs : List ℕ) → length cs ≡ n
        → left 0 (c ∷ scale ∷ quota ∷ []) (head_words h) (turned_counters (counters_used s) from to cs) ticks rows threads'
        ≡ leaves (step (in_force m) s seeds (at cs) (index tick bank thread)) out words
    index_done out h threads' from to c scale quota eh eth ef et ec es eq cs k =
        left_index m s seeds words cs ticks rows threads tick bank thread out (index_is cs k ∙ e) h _ threads' c scale quota eh
        (ap₂ (λ x y. turned_counters (counters_used s) x y cs) ef et) eth (ec ∙ ap (λ x. index_counter s threads' bank thread (x % 2)) et) es eq
