-- The test of refusal 7, by the words of the head.
use Rattle.std.proofs.Common.{◌≡◌, ℕ, ◌≤◌, Bool, true, false, ◌&&◌, ltb, List, get_or, sym, refl, ap, ◌∙◌, ap₂, arith}
use Rattle.head.specs.declared.Head.{Head}
use Rattle.rules.specs.declared.Setting.{Setting}
use Rattle.rules.specs.Cells.{every}
use Rattle.rules.specs.State.{head_of}
use Rattle.rules.specs.Setting.{history_length}
use Rattle.rules.specs.History.{not_after, never_rises}
use Rattle.rules.proofs.Tests.{and_assoc, every_same}
use Rattle.rules.proofs.Cells.{get_or_cells}
use Rattle.refusal.specs.Words.{words_past}
use Rattle.refusal.proofs.head_ticks.Ticks.{one}
use Rattle.refusal.specs.Memory.{memory_test}

-- ---- the tests of the memory, in their order

module _ (s : Setting) (h : Head) (ticks : List ℕ) where
  abbrev pub in_ring : Bool
  in_ring = ltb h.next (history_length s)

  abbrev pub banks_past : Bool
  banks_past = every s.banks (λ b. not_after h.last (get_or h.bank b 0))

  abbrev pub rank_past : Bool
  rank_past = every 4 (λ k. not_after h.last (get_or h.rank k 0))

  abbrev pub history_ok : Bool
  history_ok = every (history_length s) (λ p. not_after h.last (get_or ticks p 0)) && never_rises (history_length s) h.next ticks

  tests : (a b c d e : Bool) → (a && b && c && d && e) ≡ (a && (b && (c && (d && e))))
  tests true true true d e = refl
  tests true true false d e = refl
  tests true false c d e = refl
  tests false b c d e = refl

  pub memory_tests : memory_test s h ticks ≡ (in_ring && (banks_past && (rank_past && history_ok)))
  unfolding memory_test
  memory_tests =
      tests in_ring banks_past rank_past (every (history_length s) (λ p. not_after h.last (get_or ticks p 0))) (never_rises (history_length s) h.next ticks)

-- ---- the head that the words hold

module _ (s : Setting) (words ticks : List ℕ) where
  pub banks_words : s.banks ≤ 16 → banks_past s (head_of words) ticks ≡ words_past words 2 s.banks
  unfolding words_past head_of
  banks_words h =
      every_same s.banks (one words 2) (λ b. not_after (head_of words).last (get_or (head_of words).bank b 0))
      (λ b k. ap (not_after (get_or words 0 0)) (get_or_cells words 2 16 b (omega arith)))

  pub rank_words : rank_past s (head_of words) ticks ≡ words_past words 18 4
  unfolding words_past head_of
  rank_words =
      every_same 4 (one words 18) (λ k. not_after (head_of words).last (get_or (head_of words).rank k 0))
      (λ k h. ap (not_after (get_or words 0 0)) (get_or_cells words 18 4 k h))

  -- refusal 7 does not apply, by the words
  pub memory_words : s.banks ≤ 16
      → memory_test s (head_of words) ticks
      ≡ (ltb (get_or words 1 0) (history_length s)
      && ((words_past words 2 s.banks && words_past words 18 4)
      && (every (history_length s) (λ p. not_after (get_or words 0 0) (get_or ticks p 0)) && never_rises (history_length s) (get_or words 1 0) ticks)))
  unfolding head_of
  memory_words h =
      let rest = history_ok s (head_of words) ticks in
      memory_tests s (head_of words) ticks
      ∙ ap (λ x. in_ring s (head_of words) ticks && x)
      (ap₂ (λ b r. b && (r && rest)) (banks_words h) rank_words ∙ sym (and_assoc (words_past words 2 s.banks) (words_past words 18 4) rest))

  -- the tests in the order of the code: of the next place, of the head and of the history
  pub memory_tested : (places : ℕ) (past rest : Bool) → s.banks ≤ 16 → places ≡ history_length s → past ≡ (words_past words 2 s.banks && words_past words 18 4)
      → rest ≡ (every places (λ p. not_after (get_or words 0 0) (get_or ticks p 0)) && never_rises places (get_or words 1 0) ticks)
      → memory_test s (head_of words) ticks ≡ (ltb (get_or words 1 0) places && (past && rest))
  memory_tested places past rest h e p r = rw (e, p, rw e at r) (memory_words h)
