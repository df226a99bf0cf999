-- A thread's cells, and what a done changes of them.
use mathlib.Core.Path.{◌≡◌}
use Prim.Native.Nat.{ℕ, ◌+◌}
use native.Mathlib.Omega.{arith}
use Rattle.rules.specs.declared.Setting.{Setting}
use Rattle.rules.specs.State.{thread_cell}

-- the k-th cell from the first
pub cell_at : (s : Setting) (bank thread at k : ℕ) → at ≡ thread_cell s bank thread 0 → at + k ≡ thread_cell s bank thread k
cell_at s bank thread at k e = omega arith
