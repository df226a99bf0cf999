-- What set-up leaves, for counters of any contents that have the length which was given.
use Prim.Native.Nat.{ℕ, ◌≤◌}
use mathlib.Core.Path.{◌≡◌, sym, ap, ◌∙◌}
use mathlib.Core.List.{List, []}
use mathlib.Core.Bool.{false}
use native.Mathlib.Omega.{arith}
use lib.Dec.{ltb}
use lib.ListN.{length}
use Rattle.std.specs.Prelude.{Result, Ok, Err, IsErrAnd}
use Rattle.head.specs.declared.Head.{Head}
use Rattle.rules.specs.declared.Setting.{Setting}
use Rattle.rules.specs.declared.Limits.{Limits}
use Rattle.rules.specs.Answers as rules
use Rattle.rules.specs.Answers.{none}
use Rattle.rules.specs.Cells.{clear_cells}
use Rattle.rules.specs.Setting.{history_length}
use Rattle.rules.specs.State.{State, counters_used, threads_used, state, head_of, head_words, fresh_head, fresh}
use Rattle.rules.specs.Tested.{SetUp}
use Rattle.rules.specs.Calls.{finished, outcome, setup, setup_refusal}
use Rattle.rules.proofs.Accept.{set_up_lem}
use Rattle.refused.specs.declared.Refusal.{Refusal}
use Rattle.refused.specs.Numbers.{code_of}
use Rattle.refused.specs.Passed.{passed}
use Rattle.refusal.specs.Tests.{setup_test, lent_test}
use Rattle.refusal.proofs.Refusals.{setup_test_lem, lent_setup}
use Rattle.interface.specs.Left.{left, found, leaves}
use Rattle.lent.specs.Filters.{cleared_by}
use Rattle.lent.proofs.request.Settled.{left_refused, left_setup}
use Rattle.lent.proofs.request.Counters.{some, some_long, blank}

module _ (m : Limits) (s : Setting) (seeds words : List ℕ) (n : ℕ) (ticks rows threads : List ℕ) where
  -- the state that the call finds, with these counters
  abbrev at : List ℕ → State
  at cs = found words cs ticks rows threads

  abbrev test : rules.Refusal
  test = lent_test m s seeds (head_of words) n ticks (length rows) (length threads) false

  -- no contents of the counters are tested
  setup_is : (cs : List ℕ) → length cs ≡ n → setup_refusal m s seeds (at cs) ≡ test
  setup_is cs k =
      setup_test_lem m s seeds (at cs) ∙ ap (λ x. setup_test m s seeds x (length ticks) (length rows) (length threads)) k
      ∙ sym (lent_setup m s seeds (head_of words) n ticks (length rows) (length threads))

  pub setup_refused : (back : Result ℕ Refusal) (x : Refusal) → passed test ≡ Err x → IsErrAnd back (λ y. y ≡ x) → (cs : List ℕ) → length cs ≡ n
      → left (code_of back) [] words (cleared_by back cs) ticks rows threads ≡ leaves (setup m s seeds (at cs)) [] words
  unfolding setup
  setup_refused (Ok used) x e h cs k = absurd h
  setup_refused (Err y) x e h cs k =
      left_refused (setup_refusal m s seeds (at cs)) (outcome finished (fresh s (at cs))) x y [] words cs ticks rows threads (ap passed (setup_is cs k) ∙ e) h

  module _ (e : test ≡ none) where
    -- what the tests that it passed give
    pub setup_ok : SetUp m s seeds (blank words n ticks rows threads)
    setup_ok = set_up_lem m s seeds (at (some n)) (setup_is (some n) (some_long n) ∙ e)

    pub setup_room : counters_used s ≤ n
    setup_room = omega (arith, setup_ok.long.counters, some_long n)

    pub setup_done : (h : Head) (ticks' rows' threads' : List ℕ) → h ≡ fresh_head → ticks' ≡ clear_cells (λ i. ltb i (history_length s)) ticks
        → rows' ≡ clear_cells (λ i. ltb i (history_length s)) rows → threads' ≡ clear_cells (λ i. ltb i (threads_used s)) threads
        → (cs : List ℕ) → length cs ≡ n
        → left 0 [] (head_words h) (clear_cells (λ i. ltb i (counters_used s)) cs) ticks' rows' threads' ≡ leaves (setup m s seeds (at cs)) [] words
    unfolding fresh
    setup_done h ticks' rows' threads' eh et er eth cs k =
        left_setup m s seeds words cs ticks rows threads (setup_is cs k ∙ e)
        (state h (clear_cells (λ i. ltb i (counters_used s)) cs) ticks' rows' threads')
        (λ i. state (eh i) (clear_cells (λ j. ltb j (counters_used s)) cs) (et i) (er i) (eth i))
