-- The test of the stored ticks by the straight runs of the ring.
use Rattle.std.proofs.Common.{◌≡◌, ℕ, suc, ◌+◌, ◌-◌, ◌<◌, ◌≤◌, Bool, ◌&&◌, T, leb, List, get_or, ◌∙◌, arith, le→leb}
use native.Mathlib.Decide.{dec_lt, ℕ_discrete}
use Rattle.rules.specs.Cells.{every}
use Rattle.rules.specs.History.{back, not_after, never_rises}
use Rattle.rules.proofs.Tests.{and_i, and_l, and_r, every_at, every_all}
use Rattle.rules.proofs.Ring.{back_new, back_old, back_lt, back_back, falls_one, falls}
use Rattle.rules.proofs.Memory.{not_after_lem, after_not}
use Rattle.history.specs.Runs.{never_falls}
use Rattle.history.proofs.runs.Runs.{run_at, run_all}

-- the pair i and i + 1 steps back lies in the run from p on
in_high : (h p i : ℕ) → p ≤ i → suc i < h → h - 2 - i < h - 1 - p
in_high h p i a b = omega arith

-- the stored ticks pass the test
abbrev pub tested : List ℕ → ℕ → ℕ → ℕ → Bool
tested ticks h p last = every h (λ q. not_after last (get_or ticks q 0)) && never_rises h p ticks

module _ (ticks : List ℕ) (h p last : ℕ) (ph : p < h) where
  none_after : T (tested ticks h p last) → (q : ℕ) → q < h → T (not_after last (get_or ticks q 0))
  none_after s q qh =
      every_at h (λ q. not_after last (get_or ticks q 0)) (and_l (every h (λ q. not_after last (get_or ticks q 0))) (never_rises h p ticks) s) q qh

  -- the place i + 1 steps back, named, holds no greater tick than the place i steps back, named
  step : T (tested ticks h p last) → (i old new : ℕ) → suc i < h → back h p (suc i) ≡ old → back h p i ≡ new → get_or ticks old 0 ≤ get_or ticks new 0
  step s i old new ih eo en =
      rw (eo, en) at (falls_one h p ticks (and_r (every h (λ q. not_after last (get_or ticks q 0))) (never_rises h p ticks) s) i ih)

  pub steady_newest : T (tested ticks h p last) → T (not_after last (get_or ticks (back h p 0) 0))
  steady_newest s = none_after s (back h p 0) (back_lt h p ph 0 (omega arith))

  pub steady_wrap : T (tested ticks h p last) → 0 < p → get_or ticks (h - 1) 0 ≤ get_or ticks 0 0
  steady_wrap s z =
      step s (p - 1) (h - 1) 0 (omega arith)
      (back_old h p ph (suc (p - 1)) (omega arith) ∙ omega arith)
      (back_new h p ph (p - 1) (omega arith) ∙ omega arith)

  pub steady_low : T (tested ticks h p last) → T (never_falls ticks 0 (p - 1))
  steady_low s =
      run_all ticks 0 (p - 1)
      (λ k kh.
      step s (p - 2 - k) (0 + k) (0 + k + 1) (omega arith)
      (back_new h p ph (suc (p - 2 - k)) (omega arith) ∙ omega arith)
      (back_new h p ph (p - 2 - k) (omega arith) ∙ omega arith))

  pub steady_high : T (tested ticks h p last) → T (never_falls ticks p (h - 1 - p))
  steady_high s =
      run_all ticks p (h - 1 - p)
      (λ k kh.
      step s (h - 2 - k) (p + k) (p + k + 1) (omega arith)
      (back_old h p ph (suc (h - 2 - k)) (omega arith) ∙ omega arith)
      (back_old h p ph (h - 2 - k) (omega arith) ∙ omega arith))

  -- the two runs and the pair across the wrap make the whole ring
  falls_all : (0 < p → (get_or ticks (h - 1) 0 ≤ get_or ticks 0 0) × T (never_falls ticks 0 (p - 1))) → T (never_falls ticks p (h - 1 - p)) → T (never_rises h p ticks)
  unfolding never_rises
  falls_all low high = every_all (h - 1) (λ i. leb (get_or ticks (back h p (suc i)) 0) (get_or ticks (back h p i) 0)) (λ i ih. le→leb (get_or ticks (back h p (suc i)) 0) (get_or ticks (back h p i) 0) (go i (omega arith) (dec_lt (suc i) p) (ℕ_discrete (suc i) p)))
    where
      go : (i : ℕ) → suc i < h → Dec (suc i < p) → Dec (suc i ≡ p) → get_or ticks (back h p (suc i)) 0 ≤ get_or ticks (back h p i) 0
      go i ih (yes l) e =
          let old : p - 1 - suc i ≡ 0 + (p - 2 - i) = omega arith in
          let new : p - 1 - i ≡ 0 + (p - 2 - i) + 1 = omega arith in
          rw (back_new h p ph (suc i) l, back_new h p ph i (omega arith), old, new) (run_at ticks 0 (p - 1) (p - 2 - i) (low (omega arith)).1 (omega arith))
      go i ih (no l) (yes e) =
          let old : p + h - 1 - suc i ≡ h - 1 = omega arith in
          let new : p - 1 - i ≡ 0 = omega arith in
          rw (back_old h p ph (suc i) (omega arith), back_new h p ph i (omega arith), old, new) (low (omega arith)).0
      go i ih (no l) (no e) =
          let old : p + h - 1 - suc i ≡ p + (h - 2 - i) = omega arith in
          let new : p + h - 1 - i ≡ p + (h - 2 - i) + 1 = omega arith in
          rw (back_old h p ph (suc i) (omega arith), back_old h p ph i (omega arith), old, new) (run_at ticks p (h - 1 - p) (h - 2 - i) high (in_high h p i (omega arith) ih))

  -- where none rises, the newest tick is the greatest
  pub steady_all : T (not_after last (get_or ticks (back h p 0) 0))
      → (0 < p → (get_or ticks (h - 1) 0 ≤ get_or ticks 0 0) × T (never_falls ticks 0 (p - 1)))
      → T (never_falls ticks p (h - 1 - p)) → T (tested ticks h p last)
  steady_all new low high =
      let f = falls_all low high in
      and_i (every h (λ q. not_after last (get_or ticks q 0))) (never_rises h p ticks) (every_all h (λ q. not_after last (get_or ticks q 0)) (λ q qh. one f q qh)) f
    where
      one : T (never_rises h p ticks) → (q : ℕ) → q < h → T (not_after last (get_or ticks q 0))
      one f q qh =
          let g = falls h p ticks f 0 (back h p q) (omega (arith, back_lt h p ph q qh)) in
          let z : 0 + back h p q ≡ back h p q = omega arith in
          after_not last (get_or ticks q 0) (omega (arith, rw (z, back_back h p ph q qh) at g, not_after_lem last (get_or ticks (back h p 0) 0) new))
