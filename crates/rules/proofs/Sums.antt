-- Sums over the numbers below n, and the thread's total in flight as such a sum.
use mathlib.Core.Path.{◌≡◌, refl, sym, subst}
use mathlib.Core.Logic.{◌≢◌}
use mathlib.Core.List.{List}
use Prim.Native.Nat.{ℕ, zero, suc, ◌+◌, ◌≤◌, ◌<◌}
use native.Mathlib.Omega.{arith}
use native.Mathlib.Decide.{ℕ_discrete}
use lib.ListN.{get_or}
use Rattle.rules.specs.declared.Setting.{Setting}
use Rattle.rules.specs.Cells.{sum_below}
use Rattle.rules.specs.State.{threads_used, thread_cell}
use Rattle.rules.specs.Quota.{in_flight_here, in_flight_total}
use Rattle.rules.proofs.Cells.{thread_in}

-- ---- sums

-- terms that are 0
pub sum_zero : (n : ℕ) (f : ℕ → ℕ) → ((b : ℕ) → b < n → f b ≡ 0) → sum_below n f ≡ 0
sum_zero zero f h = refl
sum_zero (suc n) f h = omega (arith, sum_zero n f (λ b k. h b (omega arith)), h n (omega arith))

-- equal terms
pub sum_same : (n : ℕ) (f g : ℕ → ℕ) → ((b : ℕ) → b < n → g b ≡ f b) → sum_below n g ≡ sum_below n f
sum_same zero f g h = refl
sum_same (suc n) f g h = omega (arith, sum_same n f g (λ b k. h b (omega arith)), h n (omega arith))

-- a term is at most the sum
pub sum_part : (n : ℕ) (f : ℕ → ℕ) (b : ℕ) → b < n → f b ≤ sum_below n f
sum_part zero f b h = absurd (omega arith)
sum_part (suc n) f b h = go (ℕ_discrete b n) (sum_part n f b)
  where
    go : Dec (b ≡ n) → (b < n → f b ≤ sum_below n f) → f b ≤ sum_below n f + f n
    go (yes e) rest = rw e (omega arith)
    go (no e) rest = omega (arith, rest (omega arith))

-- equal terms but for one, which is 1 more
pub sum_more : (n : ℕ) (f g : ℕ → ℕ) (b : ℕ) → b < n → g b ≡ f b + 1 → ((c : ℕ) → c < n → c ≢ b → g c ≡ f c) → sum_below n g ≡ sum_below n f + 1
sum_more zero f g b h e same = absurd (omega arith)
sum_more (suc n) f g b h e same = go (ℕ_discrete b n) (λ k. sum_more n f g b k e (λ c l. same c (omega arith)))
  where
    go : Dec (b ≡ n) → (b < n → sum_below n g ≡ sum_below n f + 1) → sum_below n g + g n ≡ sum_below n f + f n + 1
    go (yes q) rest =
        let last : g n ≡ f n + 1 = subst (λ x. g x ≡ f x + 1) q e in
        omega (arith, sum_same n f g (λ c l. same c (omega arith) (λ k. omega arith)), last)
    go (no q) rest = omega (arith, rest (omega arith), same n (omega arith) (λ k. q (sym k)))

-- ---- the total

module _ (s : Setting) (threads : List ℕ) (bank thread : ℕ) where
  pub total_none : thread < s.threads → ((i : ℕ) → i < threads_used s → get_or threads i 0 ≡ 0) → in_flight_total s threads bank thread ≡ 0
  unfolding in_flight_total
  total_none th z = sum_zero s.banks (λ b. in_flight_here s threads b thread) (λ b k. z (thread_cell s b thread 2) (thread_in s b thread 2 k th (omega arith)))

  -- the named bank's own count is at most the total
  pub total_own : bank < s.banks → in_flight_here s threads bank thread ≤ in_flight_total s threads bank thread
  unfolding in_flight_total
  total_own bh = sum_part s.banks (λ b. in_flight_here s threads b thread) bank bh

  -- it depends on the used thread counters alone
  pub total_used : (other : List ℕ) → thread < s.threads → ((i : ℕ) → i < threads_used s → get_or other i 0 ≡ get_or threads i 0)
      → in_flight_total s other bank thread ≡ in_flight_total s threads bank thread
  unfolding in_flight_total
  total_used other th same =
      sum_same s.banks (λ b. in_flight_here s threads b thread) (λ b. in_flight_here s other b thread)
      (λ b k. same (thread_cell s b thread 2) (thread_in s b thread 2 k th (omega arith)))
