-- What the verdict looks at: the records and nothing behind them, and of a bank and a row their word.
use mathlib.Core.Path.{◌≡◌, refl, sym, ap, ap₂, subst, ◌∙◌}
use mathlib.Core.Bool.{Bool, true, false, not, ◌&&◌, ◌||◌, cond}
use Prim.Native.Nat.{ℕ, ◌/◌, ◌%◌, ◌^◌, ◌<◌}
use native.Mathlib.Omega.{arith}
use lib.Dec.{T, leb, ltb, eqb, eqb→eq, eqb_refl}
use lib.IntN.{ℤ, sub_ℕ, nat_abs, ◌-ℤ◌}
use Rattle.rules.specs.Cells.{every}
use Rattle.rules.proofs.Tests.{and_i, and_l, and_r, holds, same_test, every_same}
use Rattle.std.specs.Prelude.{Some, None, Ok, Err}
use Rattle.std.specs.Option.{option_map_or}
use Rattle.probe_rules.specs.declared.ProbeRefusal.TheVariants.{ShortBuffer, BadInput}
use Rattle.probe_rules.specs.Probes.{Probe, word_at, bank_at, row_at, on_time, too_short, late_tick, refusal_of, same_row, near, fits, offset, least_offset, decided, verdict_of}
use Rattle.probe_rules.specs.Claims.{SameRecords, OnlyRecords, SameWord}
use Rattle.probe_rules.proofs.Refusals.{not_short}
use Rattle.probe_rules.proofs.Found.{search_same}

-- ---- words

pub same_word_lem : SameWord
unfolding same_row
same_word_lem x y i =
    same_test (eqb (bank_at x i) (bank_at y i) && eqb (row_at x i) (row_at y i)) (eqb (word_at x i) (word_at y i))
    (λ t.
    let b = eqb→eq (bank_at x i) (bank_at y i) (and_l (eqb (bank_at x i) (bank_at y i)) (eqb (row_at x i) (row_at y i)) t) in
    let r = eqb→eq (row_at x i) (row_at y i) (and_r (eqb (bank_at x i) (bank_at y i)) (eqb (row_at x i) (row_at y i)) t) in
    let e : word_at x i ≡ word_at y i = omega (arith, b, r) in
    subst (λ w. T (eqb (word_at x i) w)) e (eqb_refl (word_at x i)))
    (λ t.
    let e = eqb→eq (word_at x i) (word_at y i) t in
    and_i (eqb (bank_at x i) (bank_at y i)) (eqb (row_at x i) (row_at y i))
    (subst (λ w. T (eqb (bank_at x i) (w / 65536))) e (eqb_refl (bank_at x i)))
    (subst (λ w. T (eqb (row_at x i) (w % 65536))) e (eqb_refl (row_at x i))))

-- ---- records

module _ (x y z w : Probe) (a : SameRecords x z) (b : SameRecords y w) where
  same_fits : (j : ℕ) (d : ℤ) → fits j d x y ≡ fits j d z w
  unfolding fits same_row near
  same_fits j d =
      go (eqb x.count y.count) refl
      ∙ ap₂ (λ m n. eqb m n && every m (λ i. same_row z w i && near j d z w i)) a.counts b.counts
    where
      go : (q : Bool) → eqb x.count y.count ≡ q
          → (q && every x.count (λ i. same_row x y i && near j d x y i)) ≡ (q && every x.count (λ i. same_row z w i && near j d z w i))
      go false e = refl
      go true e =
          let c = eqb→eq x.count y.count (holds (eqb x.count y.count) e) in
          every_same x.count (λ i. same_row z w i && near j d z w i) (λ i. same_row x y i && near j d x y i)
          (λ i h.
          let k : i < y.count = omega (arith, h, c) in
          ap₂ (λ s n. s && n)
          (ap₂ (λ u v. eqb (u / 65536) (v / 65536) && eqb (u % 65536) (v % 65536)) (a.words i h) (b.words i k))
          (ap₂ (λ u v. leb (nat_abs (sub_ℕ v u -ℤ d)) j) (a.ticks i h) (b.ticks i k)))

  same_offset : (j : ℕ) → least_offset j x y ≡ least_offset j z w
  unfolding least_offset
  same_offset j = search_same (λ e. fits j (offset e) x y) (λ e. fits j (offset e) z w) 0 2001 (λ e. same_fits j (offset e))

same_late : (x z : Probe) → SameRecords x z → late_tick x ≡ late_tick z
unfolding late_tick
same_late x z a =
    ap not (every_same x.count (on_time z.ticks) (on_time x.ticks) (λ i h. ap (λ t. ltb t (2 ^ 62)) (a.ticks i h)) ∙ ap (λ n. every n (on_time z.ticks)) a.counts)

same_short : (x z : Probe) → SameRecords x z → too_short x ≡ too_short z
same_short x z a = not_short x a.here ∙ sym (not_short z a.there)

pub only_records : OnlyRecords
unfolding verdict_of refusal_of
only_records x y z w j a b =
    ap₂ (λ r e. option_map_or Err r (Ok (decided e))) refusal (same_offset x y z w a b j)
  where
    refusal : refusal_of x y j ≡ refusal_of z w j
    refusal =
        ap₂ (λ s t. cond s (Some ShortBuffer) (cond t (Some BadInput) None)) (ap₂ ◌||◌ (same_short x z a) (same_short y w b))
        (ap₂ (λ s t. ltb 1000 j || s || t) (same_late x z a) (same_late y w b))
