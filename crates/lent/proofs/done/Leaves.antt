-- What a done leaves, for counters of any contents that have the length which was given.
use Prim.Native.Nat.{ℕ, ◌≤◌}
use mathlib.Core.Path.{◌≡◌, ap, ap₂, ◌∙◌}
use mathlib.Core.List.{List, []}
use lib.ListN.{length, get_or}
use Rattle.std.specs.Prelude.{Result, Ok, Err, IsErrAnd}
use Rattle.head.specs.declared.Head.{Head}
use Rattle.head.specs.Head.{moved_head}
use Rattle.rules.specs.declared.Setting.{Setting}
use Rattle.rules.specs.declared.Limits.{Limits}
use Rattle.rules.specs.Answers as rules
use Rattle.rules.specs.Answers.{none}
use Rattle.rules.specs.State.{State, counters_used, threads_used, thread_cell, head_of, head_words}
use Rattle.rules.specs.Clock.{epoch, turned_counters, turned_threads, turned}
use Rattle.rules.specs.Policy.{in_force}
use Rattle.rules.specs.Tested.{Taken}
use Rattle.rules.specs.Calls.{one_less, done, done_refusal, reported, step}
use Rattle.rules.proofs.Accept.{taken, done_taken, not_zero}
use Rattle.refused.specs.declared.Refusal.{Refusal}
use Rattle.refused.specs.Numbers.{code_of}
use Rattle.refused.specs.Passed.{passed}
use Rattle.refusal.specs.Tests.{done_test}
use Rattle.refusal.proofs.Refusals.{done_test_lem}
use Rattle.interface.specs.Left.{left, found, leaves}
use Rattle.lent.specs.declared.done.Clocked.{Clocked}
use Rattle.lent.specs.Filters.{turned_by}
use Rattle.lent.proofs.request.Settled.{left_refused, left_done}
use Rattle.lent.proofs.request.Counters.{some, some_long, blank}

module _ (m : Limits) (s : Setting) (seeds words : List ℕ) (n : ℕ) (ticks rows threads : List ℕ) (tick bank thread : ℕ) where
  -- the state that the call finds, with these counters
  abbrev at : List ℕ → State
  at cs = found words cs ticks rows threads

  abbrev test : rules.Refusal
  test = done_test m s seeds (head_of words) n ticks (length rows) threads tick bank thread

  -- no contents of the counters are tested
  done_is : (cs : List ℕ) → length cs ≡ n → done_refusal m s seeds (at cs) tick bank thread ≡ test
  done_is cs k =
      done_test_lem m s seeds (at cs) tick bank thread ∙ ap (λ x. done_test m s seeds (head_of words) x ticks (length rows) threads tick bank thread) k

  pub done_refused : (back : Result Clocked Refusal) (x : Refusal) → passed test ≡ Err x → IsErrAnd back (λ y. y ≡ x) → (cs : List ℕ) → length cs ≡ n
      → left (code_of back) [] words (turned_by back cs) ticks rows threads ≡ leaves (step (in_force m) s seeds (at cs) (done tick bank thread)) [] words
  unfolding step
  done_refused (Ok clocked) x e h cs k = absurd h
  done_refused (Err y) x e h cs k =
      left_refused (done_refusal m s seeds (at cs) tick bank thread) (reported s (turned s (at cs) tick) bank thread) x y [] words cs ticks rows threads
      (ap passed (done_is cs k) ∙ e) h

  module _ (e : test ≡ none) where
    pub done_ok : Taken m s seeds (blank words n ticks rows threads) tick bank thread × (1 ≤ get_or threads (thread_cell s bank thread 2) 0)
    done_ok =
        let d = done_taken m s seeds (at (some n)) tick bank thread (done_is (some n) (some_long n) ∙ e) in
        (taken m s seeds (at (some n)) tick bank thread d.0, not_zero _ d.1)

    pub done_done : (h : Head) (threads' : List ℕ) (from to : ℕ) → h ≡ moved_head (head_of words) tick
        → threads' ≡ one_less s bank thread (turned_threads (threads_used s) (epoch s (head_of words).last) (epoch s tick) threads)
        → from ≡ epoch s (head_of words).last → to ≡ epoch s tick
        → (cs : List ℕ) → length cs ≡ n
        → left 0 [] (head_words h) (turned_counters (counters_used s) from to cs) ticks rows threads' ≡ leaves (step (in_force m) s seeds (at cs) (done tick bank thread)) [] words
    done_done h threads' from to eh eth ef et cs k =
        left_done m s seeds words cs ticks rows threads tick bank thread (done_is cs k ∙ e) h _ threads' eh
        (ap₂ (λ x y. turned_counters (counters_used s) x y cs) ef et) eth
