-- Which refusal two lists get, and what a refused call leaves.
use mathlib.Core.Path.{◌≡◌, refl, sym, ap, ap₂, ◌∙◌}
use mathlib.Core.Bool.{Bool, true, false, not, ◌||◌, cond}
use Prim.Native.Nat.{ℕ, suc, ◌^◌}
use native.Mathlib.Omega.{arith}
use lib.Dec.{ltb, ltb→lt, nltb→le, lt→ltb}
use lib.ListN.{length}
use borrow.Author.Tests.{le-ltb}
use Rattle.rules.specs.Cells.{every}
use Rattle.rules.proofs.Tests.{not_or, not_not, fails, is_true, every_at, every_all}
use Rattle.std.specs.Prelude.{Option, Some, None, Ok, Err}
use Rattle.std.specs.Option.{option_map_or}
use Rattle.probe_rules.specs.declared.ProbeRefusal.{ProbeRefusal}
use Rattle.probe_rules.specs.declared.ProbeRefusal.TheVariants.{ShortBuffer, BadInput}
use Rattle.probe_rules.specs.Probes.{Probe, tick_at, on_time, too_short, late_tick, refusal_of, refusal_number, probes_refusal, least_offset, decided, verdict_of, code_of, out_of}
use Rattle.probe_rules.specs.Claims.{Held, OnTime, Accepted, RefusedExactly, RefusedLeaves}

-- ---- the tests as facts

pub held : (p : Probe) → too_short p ≡ false → Held p
held p e =
    let t = not_or (ltb (length p.ticks) p.count) (ltb (length p.rows) p.count) (fails (too_short p) e) in
    (nltb→le (length p.ticks) p.count t.0, nltb→le (length p.rows) p.count t.1)

pub not_short : (p : Probe) → Held p → too_short p ≡ false
not_short p h = ap₂ ◌||◌ (le-ltb (length p.ticks) p.count h.0) (le-ltb (length p.rows) p.count h.1)

on_time_lem : (p : Probe) → late_tick p ≡ false → OnTime p
unfolding late_tick
on_time_lem p e i h =
    let t = not_not (every p.count (on_time p.ticks)) (fails (not (every p.count (on_time p.ticks))) e) in
    ltb→lt (tick_at p i) (2 ^ 62) (every_at p.count (on_time p.ticks) t i h)

not_late : (p : Probe) → OnTime p → late_tick p ≡ false
unfolding late_tick
not_late p h =
    ap not
    (is_true (every p.count (on_time p.ticks)) (every_all p.count (on_time p.ticks) (λ i k. lt→ltb (tick_at p i) (2 ^ 62) (h i k))))

-- ---- the refusal

module _ (x y : Probe) (j : ℕ) where
  pub refusal_by : {a b c d e : Bool} → too_short x ≡ a → too_short y ≡ b → ltb 1000 j ≡ c → late_tick x ≡ d → late_tick y ≡ e
      → refusal_of x y j ≡ cond (a || b) (Some ShortBuffer) (cond (c || d || e) (Some BadInput) None)
  unfolding refusal_of
  refusal_by a b c d e = ap₂ (λ s t. cond s (Some ShortBuffer) (cond t (Some BadInput) None)) (ap₂ ◌||◌ a b) (ap₂ ◌||◌ (ap₂ ◌||◌ c d) e)

  -- the number of what is refused, and the verdict
  pub number_is : {r : Option ProbeRefusal} → refusal_of x y j ≡ r → probes_refusal x y j ≡ option_map_or refusal_number r 0
  unfolding probes_refusal
  number_is e = ap (λ r. option_map_or refusal_number r 0) e

  pub verdict_is : {r : Option ProbeRefusal} → refusal_of x y j ≡ r → verdict_of x y j ≡ option_map_or Err r (Ok (decided (least_offset j x y)))
  unfolding verdict_of
  verdict_is e = ap (λ r. option_map_or Err r (Ok (decided (least_offset j x y)))) e

  pub accepted : probes_refusal x y j ≡ 0 → Accepted x y j
  accepted r = go (too_short x) refl (too_short y) refl (ltb 1000 j) refl (late_tick x) refl (late_tick y) refl
    where
      go : (a : Bool) → too_short x ≡ a → (b : Bool) → too_short y ≡ b → (c : Bool) → ltb 1000 j ≡ c → (d : Bool) → late_tick x ≡ d → (e : Bool) → late_tick y ≡ e
          → Accepted x y j
      go true a b b' c c' d d' e e' = absurd (omega (arith, r, number_is (refusal_by a b' c' d' e')))
      go false a true b c c' d d' e e' = absurd (omega (arith, r, number_is (refusal_by a b c' d' e')))
      go false a false b true c d d' e e' = absurd (omega (arith, r, number_is (refusal_by a b c d' e')))
      go false a false b false c true d e e' = absurd (omega (arith, r, number_is (refusal_by a b c d e')))
      go false a false b false c false d true e = absurd (omega (arith, r, number_is (refusal_by a b c d e)))
      go false a false b false c false d false e =
          record { here = held x a; there = held y b; jitter = nltb→le 1000 j (fails (ltb 1000 j) c); first = on_time_lem x d; second = on_time_lem y e }

  not_refused : Accepted x y j → probes_refusal x y j ≡ 0
  not_refused a =
      number_is (refusal_by (not_short x a.here) (not_short y a.there) (le-ltb 1000 j a.jitter) (not_late x a.first) (not_late y a.second))

  six : (Held x × Held y → ⊥) → probes_refusal x y j ≡ 6
  six h = go (too_short x) refl (too_short y) refl
    where
      go : (a : Bool) → too_short x ≡ a → (b : Bool) → too_short y ≡ b → probes_refusal x y j ≡ 6
      go true a b b' = number_is (refusal_by a refl refl refl refl)
      go false a true b = number_is (refusal_by a b refl refl refl)
      go false a false b = absurd (h (held x a, held y b))

  eighteen : Held x → Held y → (Accepted x y j → ⊥) → probes_refusal x y j ≡ 18
  eighteen a b h = go (ltb 1000 j) refl (late_tick x) refl (late_tick y) refl
    where
      go : (c : Bool) → ltb 1000 j ≡ c → (d : Bool) → late_tick x ≡ d → (e : Bool) → late_tick y ≡ e → probes_refusal x y j ≡ 18
      go true c d d' e e' = number_is (refusal_by (not_short x a) (not_short y b) c refl refl)
      go false c true d e e' = number_is (refusal_by (not_short x a) (not_short y b) c d refl)
      go false c false d true e = number_is (refusal_by (not_short x a) (not_short y b) c d e)
      go false c false d false e =
          absurd (h (record { here = a; there = b; jitter = nltb→le 1000 j (fails (ltb 1000 j) c); first = on_time_lem x d; second = on_time_lem y e }))

pub refused_exactly : RefusedExactly
refused_exactly x y j = (accepted x y j, not_refused x y j, six x y j, eighteen x y j)

-- ---- what it leaves

pub refused_leaves : RefusedLeaves
refused_leaves x y j n before e = go (refusal_of x y j) refl
  where
    go : (r : Option ProbeRefusal) → refusal_of x y j ≡ r → (code_of (verdict_of x y j) ≡ suc n) × (out_of (verdict_of x y j) before ≡ before)
    go None f = absurd (omega (arith, e, number_is x y j f))
    go (Some r) f = let v = verdict_is x y j f in (ap code_of v ∙ sym (number_is x y j f) ∙ e, ap (λ u. out_of u before) v)

-- where nothing is refused, the number that the search found decides
pub verdict_decided : (x y : Probe) (j : ℕ) → probes_refusal x y j ≡ 0 → verdict_of x y j ≡ Ok (decided (least_offset j x y))
verdict_decided x y j e = go (refusal_of x y j) refl
  where
    go : (r : Option ProbeRefusal) → refusal_of x y j ≡ r → verdict_of x y j ≡ Ok (decided (least_offset j x y))
    go None f = verdict_is x y j f
    go (Some ShortBuffer) f = absurd (omega (arith, e, number_is x y j f))
    go (Some BadInput) f = absurd (omega (arith, e, number_is x y j f))
