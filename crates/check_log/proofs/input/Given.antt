-- One read more.
use mathlib.Core.Path.{◌≡◌, refl, sym, ap, ◌∙◌, subst}
use mathlib.Core.Bool.{Bool, true, false, cond}
use mathlib.Core.List.{List, [], ◌∷◌, ◌++◌}
use Prim.Native.Nat.{ℕ, ◌+◌, ◌-◌, ◌<◌}
use native.Mathlib.Omega.{arith}
use lib.Dec.{eqb, ltb}
use borrow.Author.Tests.{ltb-true, eqb-false}
use Rattle.check_log.specs.declared.input.Filled.{Filled}
use Rattle.check_log.specs.declared.input.Filled.TheVariants.{Whole}
use Rattle.std.specs.Prelude.{Option, Some, None}
use Rattle.std.specs.declared.ops.ControlFlow.{ControlFlow}
use Rattle.std.specs.declared.ops.ControlFlow.TheVariants.{Continue, Break}
use Rattle.check_log.specs.Reads.{nothing_left, after_read, next, reads_from, after_reads}

-- ---- read after read

-- where more is to be read, a byte more is there, and not all are
abbrev Grows : ℕ → ℕ → ControlFlow Filled ℕ → Type 0
Grows size done (Continue bytes) = (done < bytes) × (bytes < size)
Grows size done (Break filled) = Unit {0}

grows_by : (size done n : ℕ) (b c : Bool) → eqb n 0 ≡ b → ltb n (size - done) ≡ c → Grows size done (cond b (Break (nothing_left done)) (cond c (Continue (done + n)) (Break Whole)))
grows_by size done n true c e h = tt
grows_by size done n false true e h =
    let m = eqb-false n 0 e in
    let k = ltb-true n (size - done) h in
    (omega arith, omega arith)
grows_by size done n false false e h = tt

grows : (size done : ℕ) (got : Option ℕ) → Grows size done (after_read size done got)
unfolding after_read
grows size done None = tt
grows size done (Some n) = grows_by size done n (eqb n 0) (ltb n (size - done)) refl refl

pub grown : (size done bytes : ℕ) (got : Option ℕ) (r : ControlFlow Filled ℕ) → r ≡ after_read size done got → r ≡ Continue bytes → (done < bytes) × (bytes < size)
grown size done bytes got r e m = subst (Grows size done) (sym e ∙ m) (grows size done got)

reads_last : (size : ℕ) (r : ControlFlow Filled ℕ) (gots : List (Option ℕ)) (got : Option ℕ) → reads_from size r (gots ++ (got ∷ [])) ≡ next size (reads_from size r gots) got
unfolding reads_from
reads_last size r [] got = refl
reads_last size r (x ∷ gots) got = reads_last size (next size r x) gots got

-- some reads of a block leave it so
abbrev pub Reads : ℕ → ControlFlow Filled ℕ → Type 0
Reads size r = (gots : List (Option ℕ)) × (after_reads size gots ≡ r)

-- one read more
pub reads_more : (size done whole : ℕ) (got : Option ℕ) (r t : ControlFlow Filled ℕ) → r ≡ after_read size done got → r ≡ t → size ≡ whole → Reads whole (Continue done) → Reads whole t
unfolding after_reads
reads_more size done whole got r t e m w (gots, h) = (
  gots ++ (got ∷ []),
  reads_last whole (Continue 0) gots got
      ∙ ap (λ (x : ControlFlow Filled ℕ). next whole x got) h
      ∙ ap (λ (s : ℕ). after_read s done got) (sym w)
      ∙ sym e
      ∙ m,
)
