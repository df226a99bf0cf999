-- `store::put`. The loop's invariant: storing the bytes that are left, from the place reached on, gives the bytes that are promised.
use Prim.Native.Nat.{◌-◌, ◌≤◌}
use mathlib.Core.Path.{◌≡◌}
use lib.Seq.{sets}
use Rattle.log_format.specs.Bytes.{bytes_of}
use Rattle.log_bytes.proofs.store.put.Given as goal

abbrev pub invariant-loop-b : goal.invariant-loop-b
invariant-loop-b l = (l.b-index ≤ l.n) × (sets l.b-items l.b-index (bytes_of (l.n - l.b-index) l.left) ≡ sets l.initial.b-items 0 (bytes_of l.n l.x))
