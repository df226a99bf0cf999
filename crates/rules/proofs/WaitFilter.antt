-- The estimate in test at a later tick, if no call comes between: the active one up to the end of the epoch, the other one for an epoch more.
use mathlib.Core.Path.{◌≡◌, sym, ap, ◌∙◌}
use mathlib.Core.List.{List}
use Prim.Native.Nat.{ℕ, ◌+◌, ◌*◌, ◌/◌, ◌%◌, ◌≤◌, ◌<◌}
use native.Mathlib.Omega.{arith}
use native.Mathlib.Nat.{le_refl, le-div_iff_mul-le, div-lt_iff_lt-mul}
use lib.ListN.{get_or}
use Rattle.head.specs.Head.{moved_head}
use Rattle.rules.specs.declared.Setting.{Setting}
use Rattle.rules.specs.State.{State, counters_used, counter_cell}
use Rattle.rules.specs.Clock.{epoch, turned_counters, turned}
use Rattle.rules.specs.Filter.{Within, estimate}
use Rattle.rules.specs.Decision.{active_estimate}
use Rattle.rules.proofs.Clock.{next_clears, counters_none, turned_kept}

-- the epoch of a tick between the ends of two epochs
pub epoch_in : (len v k : ℕ) → 1 ≤ len → k * len ≤ v → v < (k + 1) * len → v / len ≡ k
epoch_in len v k h lo hi = omega (arith, (le-div_iff_mul-le {k = len} {x = k} {y = v} h).1 lo, (div-lt_iff_lt-mul {k = len} {x = v} {y = k + 1} h).1 hi)

-- ---- what is not cleared

counter_next : (used e bank place : ℕ) (cs : List ℕ) → place < 1024
    → get_or (turned_counters used e (e + 1) cs) (counter_cell bank ((e + 1) % 2) place) 0 ≡ get_or cs (counter_cell bank ((e + 1) % 2) place) 0
counter_next used e bank place cs h = turned_kept used e (e + 1) bank ((e + 1) % 2) place cs (omega arith) h (next_clears e)

estimate_kept : (used e bank : ℕ) (at cs : List ℕ) → Within at
    → estimate (turned_counters used e (e + 1) cs) bank ((e + 1) % 2) at ≡ estimate cs bank ((e + 1) % 2) at
unfolding estimate
estimate_kept used e bank at cs w =
    rw (
      counter_next used e bank (get_or at 0 0) cs w.first,
      counter_next used e bank (get_or at 1 0) cs w.second,
      counter_next used e bank (get_or at 2 0) cs w.third,
      counter_next used e bank (get_or at 3 0) cs w.fourth,
    )

-- ---- the estimate in test

module _ (s : Setting) (at : ℕ → List ℕ) (st : State) (bank u : ℕ) where
  abbrev e : ℕ
  e = epoch s st.head.last

  abbrev tested : ℕ → ℕ
  tested e' = estimate (turned_counters (counters_used s) e e' st.counters) bank (e' % 2) (at (e' % 2))

  pub estimate_now : epoch s u ≡ e → active_estimate s at (turned s st u) bank ≡ active_estimate s at st bank
  unfolding turned moved_head
  estimate_now h = ap tested h ∙ ap (λ cs. estimate cs bank (e % 2) (at (e % 2))) (sym (counters_none (counters_used s) e e st.counters (le_refl e)))

  pub estimate_next : epoch s u ≡ e + 1 → Within (at ((e + 1) % 2))
      → active_estimate s at (turned s st u) bank ≡ estimate st.counters bank ((e + 1) % 2) (at ((e + 1) % 2))
  unfolding turned moved_head
  estimate_next h w = ap tested h ∙ estimate_kept (counters_used s) e bank (at ((e + 1) % 2)) st.counters w
