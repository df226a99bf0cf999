-- Only a block of which nothing was read is at the end.
use mathlib.Core.Path.{refl, subst}
use mathlib.Core.Bool.{Bool, true, false, cond}
use mathlib.Core.List.{List, [], ◌∷◌}
use Prim.Native.Nat.{ℕ, zero, suc, ◌+◌, ◌-◌, ◌<◌}
use native.Mathlib.Omega.{arith}
use lib.Dec.{ltb, eqb}
use borrow.Author.Tests.{ne_eqb}
use Rattle.check_log.specs.declared.input.Filled.TheVariants.{Whole, End, Cut}
use Rattle.std.specs.Prelude.{Option, Some, None}
use Rattle.std.specs.declared.ops.ControlFlow.{ControlFlow}
use Rattle.std.specs.declared.ops.ControlFlow.TheVariants.{Continue, Break}
use Rattle.check_log.specs.declared.input.Filled.{Filled}
use Rattle.check_log.specs.Reads.{nothing_left, after_read, next, reads_from, after_reads}
use Rattle.check_log.specs.Claims.{EndAtOnce}

-- some bytes of the block were read, or it is over and not at the end
abbrev Begun : ControlFlow Filled ℕ → Type 0
Begun (Continue bytes) = 0 < bytes
Begun (Break Whole) = Unit {0}
Begun (Break End) = ⊥
Begun (Break Cut) = Unit {0}

begun_by : (b c : Bool) (m : ℕ) → 0 < m → Begun (cond b (Break Cut) (cond c (Continue m) (Break Whole)))
begun_by true c m h = tt
begun_by false true m h = h
begun_by false false m h = tt

begun_next : (size : ℕ) (r : ControlFlow Filled ℕ) (got : Option ℕ) → Begun r → Begun (next size r got)
unfolding after_read nothing_left
begun_next size (Continue done) None h = tt
begun_next size (Continue done) (Some n) h =
    rw (ne_eqb done 0 (λ z. omega arith)) (begun_by (eqb n 0) (ltb n (size - done)) (done + n) (omega arith))
begun_next size (Break filled) got h = h

begun_stays : (size : ℕ) (r : ControlFlow Filled ℕ) (gots : List (Option ℕ)) → Begun r → Begun (reads_from size r gots)
unfolding reads_from
begun_stays size r [] h = h
begun_stays size r (got ∷ gots) h = begun_stays size (next size r got) gots (begun_next size r got h)

begun_first : (size n : ℕ) → Begun (after_read size 0 (Some (suc n)))
unfolding after_read
begun_first size n = rw (ne_eqb (suc n) 0 (λ z. omega arith)) (begun_by false (ltb (suc n) (size - 0)) (0 + suc n) (omega arith))

pub end_at_once : EndAtOnce
unfolding after_reads reads_from after_read
end_at_once size None gots e = absurd (subst Begun e (begun_stays size (Break Cut) gots tt))
end_at_once size (Some zero) gots e = refl
end_at_once size (Some (suc n)) gots e = absurd (subst Begun e (begun_stays size (after_read size 0 (Some (suc n))) gots (begun_first size n)))
