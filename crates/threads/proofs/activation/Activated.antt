-- A thread's cells after an activation.
use Rattle.std.proofs.Common.{◌≡◌, ℕ, ◌+◌, true, false, List, get_or, set, get_or-set_other, ◌∙◌, arith}
use Rattle.rules.specs.declared.Setting.{Setting}
use Rattle.rules.specs.Setting.{index_scale}
use Rattle.rules.specs.State.{thread_cell}
use Rattle.rules.specs.Filter.{raised}
use Rattle.rules.specs.Decision.{activated_threads}
use Rattle.threads.proofs.counters.Index.{cell_at}

-- the cells of a thread after an activation of a row that was not blacklisted, and of one that was
module _ (s : Setting) (ts : List ℕ) (bank thread at : ℕ) (e : at ≡ thread_cell s bank thread 0) where
  pub activated_plain : set ts (at + 2) (get_or ts (at + 2) 0 + 1) ≡ activated_threads s ts bank thread false
  unfolding activated_threads
  activated_plain = rw (cell_at s bank thread at 2 e)

  -- each counter is read after the stores before it, which were to other cells
  pub activated_black : (x y : ℕ) → x ≡ raised (index_scale s) (get_or (set ts (at + 2) (get_or ts (at + 2) 0 + 1)) at 0)
      → y ≡ raised (index_scale s) (get_or (set (set ts (at + 2) (get_or ts (at + 2) 0 + 1)) at x) (at + 1) 0)
      → set (set (set ts (at + 2) (get_or ts (at + 2) 0 + 1)) at x) (at + 1) y ≡ activated_threads s ts bank thread true
  unfolding activated_threads
  activated_black x y ex ey =
      let flying = get_or ts (at + 2) 0 + 1 in
      let first : get_or (set ts (at + 2) flying) at 0 ≡ get_or ts at 0 = get_or-set_other ts (at + 2) at flying 0 (λ h. omega arith) in
      let second : get_or (set (set ts (at + 2) flying) at x) (at + 1) 0 ≡ get_or ts (at + 1) 0 =
      get_or-set_other (set ts (at + 2) flying) at (at + 1) x 0 (λ h. omega arith) ∙ get_or-set_other ts (at + 2) (at + 1) flying 0 (λ h. omega arith) in
      rw (ey, second, ex, first, cell_at s bank thread at 2 e, cell_at s bank thread at 1 e, e)
