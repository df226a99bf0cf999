-- The verdict by what the code finds out: a short buffer, a jitter that is too large, a late tick, or the differences of the pairs.
use mathlib.Core.Path.{◌≡◌, refl, sym, ap, ap₂, ◌∙◌}
use mathlib.Core.Bool.{Bool, true, false, not, ◌&&◌, cond}
use Prim.Native.Nat.{ℕ, ◌+◌, ◌-◌, ◌^◌, ◌≤◌, ◌<◌}
use native.Mathlib.Omega.{arith}
use lib.Dec.{T, leb, leb→le, T_not}
use borrow.Author.Tests.{lt-ltb, le-ltb, le-leb, lt-leb}
use Rattle.std.specs.Prelude.{Option, Some, None, Ok, Err}
use Rattle.std.specs.Option.{option_map_or}
use Rattle.std.proofs.lemmas.List.{length-take-le, get_or-take}
use Rattle.rules.specs.Cells.{every}
use Rattle.rules.proofs.Tests.{and_l, and_r, holds, is_true}
use Rattle.probe_rules.specs.declared.ProbeRefusal.{ProbeRefusal}
use Rattle.probe_rules.specs.declared.ProbeRefusal.TheVariants.{ShortBuffer, BadInput}
use Rattle.probe_rules.specs.Probes.{Probe, on_time, too_short, late_tick, probes_refusal, refusal_of, least_offset, decided, verdict_of}
use Rattle.probe_rules.specs.Closed.{alike, greatest, least, closed}
use Rattle.probe_rules.specs.Claims.{Held, SameRecords}
use Rattle.probe_rules.proofs.Refusals.{held, not_short, refusal_by, number_is, verdict_is, verdict_decided}
use Rattle.probe_rules.proofs.Closed.{alike_counts, closed_form}
use Rattle.probe_rules.proofs.Records.{only_records}
use Rattle.probes.specs.declared.pairs.Spread.{Spread}
use Rattle.probes.specs.Pairs.{paired, spread}
use Rattle.probes.specs.Records.{cut, held_records}
use Rattle.probes.proofs.pairs.All.{Told, all_on_time}

-- ---- the closed form by cases

module _ (j g l e : ℕ) (is : e ≡ g + 1000 - (2 ^ 62 + j)) where
  pub far : 2000 < e → 2001 ≡ closed j g l
  unfolding closed
  far h = rw (← is, lt-leb e 2000 h) refl

  pub wide : e ≤ 2000 → l + j + 1000 < e + 2 ^ 62 → 2001 ≡ closed j g l
  unfolding closed
  wide h k = rw (← is, le-leb e 2000 h, lt-leb (e + 2 ^ 62) (l + j + 1000) k) refl

  pub near_enough : e ≤ 2000 → e + 2 ^ 62 ≤ l + j + 1000 → e ≡ closed j g l
  unfolding closed
  near_enough h k = rw (← is, le-leb e 2000 h, le-leb (e + 2 ^ 62) (l + j + 1000) k) refl

-- lists that are alike
pub by_closed : (j g l : ℕ) (same : Bool) → not same ≡ false → decided (closed j g l) ≡ decided (cond same (closed j g l) 2001)
by_closed j g l true e = refl
by_closed j g l false e = cc

-- lists that are not
pub not_alike : (j g l : ℕ) {same : Bool} → same ≡ false → None ≡ decided (cond same (closed j g l) 2001)
not_alike j g l e = sym (ap (λ q. decided (cond q (closed j g l) 2001)) e)

-- ---- the number of an offset

decided_most : (r n : ℕ) → Some n ≡ decided r → n ≤ 2000
decided_most r n e = go (leb r 2000) refl e
  where
    go : (b : Bool) → leb r 2000 ≡ b → Some n ≡ cond b (Some r) None → n ≤ 2000
    go true k f = let m : n ≡ r = cc in omega (arith, leb→le r 2000 (holds (leb r 2000) k))
    go false k f = cc

pub fit_most : (x y : Probe) (j n : ℕ) → Ok (Some n) ≡ verdict_of x y j → n ≤ 2000
unfolding verdict_of
fit_most x y j n e = go (refusal_of x y j) e
  where
    go : (r : Option ProbeRefusal) → Ok (Some n) ≡ option_map_or Err r (Ok (decided (least_offset j x y))) → n ≤ 2000
    go None f = decided_most (least_offset j x y) n cc
    go (Some r) f = cc

-- ---- the records of what is lent

pub records_refused : (p : Probe) (e : ProbeRefusal) → Err e ≡ held_records p → (too_short p ≡ true) × (e ≡ ShortBuffer)
unfolding held_records
records_refused p e f = go (too_short p) refl f
  where
    go : (b : Bool) → too_short p ≡ b → Err e ≡ cond b (Err ShortBuffer) (Ok (cut p)) → (too_short p ≡ true) × (e ≡ ShortBuffer)
    go true k g = (k, cc)
    go false k g = cc

pub records_held : (p q : Probe) → Ok q ≡ held_records p → Held p × (q ≡ cut p)
unfolding held_records
records_held p q f = go (too_short p) refl f
  where
    go : (b : Bool) → too_short p ≡ b → Ok q ≡ cond b (Err ShortBuffer) (Ok (cut p)) → Held p × (q ≡ cut p)
    go true k g = cc
    go false k g = (held p k, cc)

pub held_cut : (p : Probe) → Held p → Held (cut p)
held_cut p h = (omega (arith, length-take-le p.count p.ticks h.0, h.0), omega (arith, length-take-le p.count p.rows h.1, h.1))

cut_same : (p : Probe) → Held p → SameRecords p (cut p)
cut_same p h =
    record {
      here = h;
      there = held_cut p h;
      counts = refl;
      ticks = λ i k. sym (get_or-take p.count p.ticks i 0 k);
      words = λ i k. sym (get_or-take p.count p.rows i 0 k);
    }

pub verdict_cut : (x y : Probe) (j : ℕ) → Held x → Held y → verdict_of (cut x) (cut y) j ≡ verdict_of x y j
verdict_cut x y j a b = sym (only_records x y (cut x) (cut y) j (cut_same x a) (cut_same y b))

-- ---- the refusals

module _ (x y : Probe) (j : ℕ) where
  pub refused_first : too_short x ≡ true → Err ShortBuffer ≡ verdict_of x y j
  refused_first a = sym (verdict_is x y j (refusal_by x y j a refl refl refl refl))

  module _ (hx : Held x) where
    pub refused_second : too_short y ≡ true → Err ShortBuffer ≡ verdict_of x y j
    refused_second b = sym (verdict_is x y j (refusal_by x y j (not_short x hx) b refl refl refl))

    module _ (hy : Held y) where
      pub refused_jitter : 1000 < j → Err BadInput ≡ verdict_of x y j
      refused_jitter h = sym (verdict_is x y j (refusal_by x y j (not_short x hx) (not_short y hy) (lt-ltb 1000 j h) refl refl))

      module _ (h : j ≤ 1000) where
        pub refused_late : T (not (all_on_time x y)) → Err BadInput ≡ verdict_of x y j
        unfolding late_tick
        refused_late t = go (every x.count (on_time x.ticks)) refl (every y.count (on_time y.ticks)) refl
          where
            go : (p : Bool) → every x.count (on_time x.ticks) ≡ p → (q : Bool) → every y.count (on_time y.ticks) ≡ q → Err BadInput ≡ verdict_of x y j
            go false e q f = sym (verdict_is x y j (refusal_by x y j (not_short x hx) (not_short y hy) (le-ltb 1000 j h) (ap not e) refl))
            go true e false f = sym (verdict_is x y j (refusal_by x y j (not_short x hx) (not_short y hy) (le-ltb 1000 j h) (ap not e) (ap not f)))
            go true e true f = absurd (T_not (all_on_time x y) t (holds (all_on_time x y) (ap₂ ◌&&◌ e f)))

        not_refused : T (all_on_time x y) → probes_refusal x y j ≡ 0
        unfolding late_tick
        not_refused t =
            let e = is_true (every x.count (on_time x.ticks)) (and_l (every x.count (on_time x.ticks)) (every y.count (on_time y.ticks)) t) in
            let f = is_true (every y.count (on_time y.ticks)) (and_r (every x.count (on_time x.ticks)) (every y.count (on_time y.ticks)) t) in
            number_is x y j (refusal_by x y j (not_short x hx) (not_short y hy) (le-ltb 1000 j h) (ap not e) (ap not f))

        -- ---- the verdict from the differences

        pub verdict_told : {s : Spread} → Told (all_on_time x y) s (spread x y) → Ok (decided (cond s.alike (closed j s.greatest s.least) 2001)) ≡ verdict_of x y j
        verdict_told {s} t =
            let ok = not_refused t.on_time in
            ap (λ e. Ok (decided e)) (by_alike ∙ go (alike x y) refl ∙ sym (closed_form x y j ok)) ∙ sym (verdict_decided x y j ok)
          where
            form : ℕ → ℕ
            form n = closed j (greatest x.ticks y.ticks n) (least x.ticks y.ticks n)

            by_alike : cond s.alike (closed j s.greatest s.least) 2001 ≡ cond (alike x y) (form (paired x y)) 2001
            by_alike = ap (λ u. cond u.alike (closed j u.greatest u.least) 2001) t.is

            go : (q : Bool) → alike x y ≡ q → cond q (form (paired x y)) 2001 ≡ cond q (form x.count) 2001
            go false e = refl
            go true e = let m : paired x y ≡ x.count = omega (arith, alike_counts x y e) in ap form m
