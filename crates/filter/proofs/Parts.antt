-- The estimate on a bank's own part of the counters: how it is read off the part, and that it is the bank's estimate.
use mathlib.Core.Path.{◌≡◌, ◌∙◌}
use mathlib.Core.List.{List, map}
use Prim.Native.Nat.{ℕ, ◌+◌, ◌-◌, ◌*◌, ◌<◌, min}
use native.Mathlib.Omega.{arith}
use native.Mathlib.Nat.{zero-add}
use lib.ListN.{get_or, take, drop}
use lib.Seq.{get_or-take, get_or-drop}
use Rattle.std.proofs.lemmas.List.{take-map, drop-map}
use Rattle.rules.specs.State.{counter_cell}
use Rattle.rules.specs.Filter.{Within, estimate}

-- the least of the four counters, as the code reads them in the part; the part is that of a bank 0
pub estimate_part : (cs : List ℕ) (f : ℕ) (at : List ℕ) (x y r : ℕ)
    → x ≡ min (get_or cs (f * 1024 + get_or at 0 0) 0) (get_or cs (f * 1024 + get_or at 1 0) 0)
    → y ≡ min (get_or cs (f * 1024 + get_or at 2 0) 0) (get_or cs (f * 1024 + get_or at 3 0) 0)
    → r ≡ min x y → r ≡ estimate cs 0 f at
unfolding estimate
estimate_part cs f at x y r ex ey er = rw (er, ex, ey, zero-add (f * 1024))

-- a counter of the part is the bank's
part_counter : (cs : List ℕ) (start b f p : ℕ) → start ≡ b * 2048 → f < 2 → p < 1024
    → get_or (take (start + 2048 - start) (drop start cs)) (counter_cell 0 f p) 0 ≡ get_or cs (counter_cell b f p) 0
part_counter cs start b f p e hf hp =
    let i = counter_cell 0 f p in
    let r : start + i ≡ counter_cell b f p = omega arith in
    get_or-take (start + 2048 - start) (drop start cs) i 0 (omega arith) ∙ get_or-drop start cs i 0 ∙ rw r

-- the part `&counters[start..start + 2048]`, as the borrow checker gives it, by the numbers of its counters
pub part_estimate : {A : Type 0} (value : A → ℕ) (cs : List A) (start b f : ℕ) (at : List ℕ) → start ≡ b * 2048 → f < 2 → Within at
    → estimate (map value (take (start + 2048 - start) (drop start cs))) 0 f at ≡ estimate (map value cs) b f at
unfolding estimate
part_estimate value cs start b f at e hf w =
    let ns = map value cs in
    rw (← take-map value (start + 2048 - start) (drop start cs), ← drop-map value start cs)
    (rw (part_counter ns start b f (get_or at 0 0) e hf w.first, part_counter ns start b f (get_or at 1 0) e hf w.second, part_counter ns start b f (get_or at 2 0) e hf w.third, part_counter ns start b f (get_or at 3 0) e hf w.fourth))
