-- The wait tick is the least tick from the call's on at which bank, rank and row rules pass, and equals its closed form.
-- Of the state it is used only that the call is not refused, so the state need not be one that calls can reach.
use mathlib.Core.Path.{◌≡◌, sym, subst}
use mathlib.Core.Logic.{◌⊎◌, inl, inr}
use mathlib.Core.List.{List}
use mathlib.Core.Bool.{Bool, true, false, not, ◌&&◌, ◌||◌, cond}
use Prim.Native.Nat.{ℕ, ◌+◌, ◌-◌, ◌*◌, ◌%◌, ◌≤◌, ◌<◌, max}
use native.Mathlib.Omega.{arith}
use native.Mathlib.Nat.{div-mul-le_self, lt-div-mul-add}
use native.Mathlib.Decide.{ℕ_discrete}
use lib.Dec.{T, leb, eqb, leb→le, le→leb, eqb→eq, not_T, T_not}
use lib.ListN.{get_or}
use Rattle.head.specs.Head.{moved_head}
use Rattle.rules.specs.declared.Setting.{Setting}
use Rattle.rules.specs.declared.Limits.{Limits}
use Rattle.rules.specs.Setting.{epoch_length, history_length}
use Rattle.rules.specs.State.{State, row_word}
use Rattle.rules.specs.Clock.{epoch, turned}
use Rattle.rules.specs.Filter.{Within, estimate, blacklisted}
use Rattle.rules.specs.History.{row_free}
use Rattle.rules.specs.Decision.{passed, active_estimate, passes_at, wait_tick}
use Rattle.rules.specs.Claims.{Least, WaitIsLeast, WaitIsClosed, gap_end, closed_wait}
use Rattle.rules.proofs.Tests.{and_i, and_l, and_r, or_l, or_r, or_e, cond_no}
use Rattle.rules.proofs.Accept.{epoch_long, taken}
use Rattle.rules.proofs.Memory.{taken_memory}
use Rattle.rules.specs.Tested.{Memory}
use Rattle.rules.proofs.Least.{Rules, least_one, least_from_lem, closed_least}
use Rattle.rules.proofs.WaitRow.{row_end, Delayed, delayed}
use Rattle.rules.proofs.WaitFilter.{epoch_in, estimate_now, estimate_next}
use Rattle.rules.proofs.Threshold.{not_black}

-- ---- a gap after a stored tick

gap_passed : (gap stored u : ℕ) → gap_end gap stored ≤ u → T (passed gap stored u)
gap_passed gap stored u h = go (ℕ_discrete stored 0)
  where
    go : Dec (stored ≡ 0) → T (passed gap stored u)
    go (yes z) = or_l (eqb stored 0) (leb (stored - 1 + gap) u) (subst (λ x. T (eqb x 0)) (sym z) tt)
    go (no z) =
        let e = cond_no (eqb stored 0) 0 (stored - 1 + gap) (not_T (eqb stored 0) (λ q. z (eqb→eq stored 0 q))) in
        or_r (eqb stored 0) (leb (stored - 1 + gap) u) (le→leb (stored - 1 + gap) u (omega (arith, e)))

gap_end_lem : (gap stored u : ℕ) → T (passed gap stored u) → gap_end gap stored ≤ u
gap_end_lem gap stored u h = go (eqb stored 0) (or_e (eqb stored 0) (leb (stored - 1 + gap) u) h)
  where
    go : (q : Bool) → T q ⊎ T (leb (stored - 1 + gap) u) → cond q 0 (stored - 1 + gap) ≤ u
    go true l = omega arith
    go false (inl l) = absurd l
    go false (inr l) = leb→le (stored - 1 + gap) u l

gap_soon : (gap stored : ℕ) → gap_end gap stored ≤ stored - 1 + gap
gap_soon gap stored = go (eqb stored 0)
  where
    go : (q : Bool) → cond q 0 (stored - 1 + gap) ≤ stored - 1 + gap
    go true = omega arith
    go false = omega arith

-- ---- the three rules from a state's last tick on

-- the first tick that bank and rank rules allow
abbrev gaps_end : Setting → State → ℕ → ℕ
gaps_end s st bank =
    max st.head.last (max (gap_end s.trc (get_or st.head.bank bank 0)) (gap_end s.tfaw (get_or st.head.rank 3 0)))

-- the tick from which the history is free of the row
abbrev delay_end : Setting → State → ℕ → ℕ → ℕ
delay_end s st bank row =
    row_end (history_length s) s.td st.head.next st.ticks st.rows (row_word bank row) st.head.last

-- the estimate in test at tick u
abbrev estimate_at : Setting → (ℕ → List ℕ) → State → ℕ → ℕ → ℕ
estimate_at s at st bank u = active_estimate s at (turned s st u) bank

module _ (s : Setting) (at : ℕ → List ℕ) (st : State) (bank row : ℕ) (kept : Memory s st.head st.ticks) where
  abbrev t : ℕ
  t = st.head.last

  abbrev bank? : ℕ → Bool
  bank? u = passed s.trc (get_or st.head.bank bank 0) u

  abbrev rank? : ℕ → Bool
  rank? u = passed s.tfaw (get_or st.head.rank 3 0) u

  abbrev black? : ℕ → Bool
  black? u = blacklisted s.n (estimate_at s at st bank u)

  abbrev free? : ℕ → Bool
  free? u = row_free (history_length s) s.td st.ticks st.rows (row_word bank row) u

  abbrev row? : ℕ → Bool
  row? u = not (black? u) || free? u

  delay : Delayed (history_length s) s.td st.ticks st.rows (row_word bank row) t (delay_end s st bank row)
  delay =
      delayed (history_length s) s.td st.head.next st.ticks st.rows (row_word bank row) t kept.in_ring kept.steady (λ q k. omega (arith, kept.history q k))

  opens : (u : ℕ) → gaps_end s st bank ≤ u → (estimate_at s at st bank u < s.n) ⊎ (delay_end s st bank row ≤ u) → T (passes_at s at st bank row u)
  unfolding passes_at turned moved_head
  opens u h row_ok =
      and_i (bank? u) (rank? u && row? u) (gap_passed s.trc (get_or st.head.bank bank 0) u (omega arith))
      (and_i (rank? u) (row? u) (gap_passed s.tfaw (get_or st.head.rank 3 0) u (omega arith)) (go row_ok))
    where
      go : (estimate_at s at st bank u < s.n) ⊎ (delay_end s st bank row ≤ u) → T (row? u)
      go (inl l) = or_l (not (black? u)) (free? u) (not_black s.n (estimate_at s at st bank u) l)
      go (inr l) = or_r (not (black? u)) (free? u) (delay.free u (omega arith) l)

  early : (u : ℕ) → t ≤ u → u < gaps_end s st bank → T (not (passes_at s at st bank row u))
  unfolding passes_at turned moved_head
  early u tu h = not_T (bank? u && (rank? u && row? u)) (λ q.
      let b = gap_end_lem s.trc (get_or st.head.bank bank 0) u (and_l (bank? u) (rank? u && row? u) q) in
      let r = gap_end_lem s.tfaw (get_or st.head.rank 3 0) u (and_l (rank? u) (row? u) (and_r (bank? u) (rank? u && row? u) q)) in
      omega arith)

  held : (u : ℕ) → t ≤ u → u < delay_end s st bank row → s.n ≤ estimate_at s at st bank u → T (not (passes_at s at st bank row u))
  unfolding passes_at turned moved_head
  held u tu h black = not_T (bank? u && (rank? u && row? u)) (λ q.
      go (or_e (not (black? u)) (free? u) (and_r (rank? u) (row? u) (and_r (bank? u) (rank? u && row? u) q))))
    where
      go : T (not (black? u)) ⊎ T (free? u) → ⊥
      go (inl q) = T_not (black? u) q (le→leb s.n (estimate_at s at st bank u) black)
      go (inr q) = T_not (free? u) (delay.held u tu h) q

  -- the gaps and the delay together are past at the last tick that the wait tick looks at
  pub wait_least : bank < s.banks → Least (passes_at s at st bank row) t (wait_tick s at st bank row)
  unfolding wait_tick
  wait_least bank_in =
      least_from_lem (passes_at s at st bank row) t (s.trc + s.tfaw + s.td)
      (opens (t + (s.trc + s.tfaw + s.td))
      (omega (
        arith,
        gap_soon s.trc (get_or st.head.bank bank 0),
        kept.bank bank bank_in,
        gap_soon s.tfaw (get_or st.head.rank 3 0),
        kept.rank 3 (omega arith),
      ))
      (inr (omega (arith, delay.soon))))

  abbrev E : ℕ
  E = epoch_length s

  abbrev end : ℕ
  end = (epoch s t + 1) * E

  abbrev next_filter : ℕ
  next_filter = (epoch s t + 1) % 2

  rules : 1 ≤ E → s.td ≤ E → Within (at next_filter)
      → Rules (passes_at s at st bank row) s.n t end E (gaps_end s st bank) (delay_end s st bank row)
      (active_estimate s at st bank) (estimate st.counters bank next_filter (at next_filter))
  rules long short w =
      let now : t < end = omega (arith, lt-div-mul-add {a = t} {b = E} long) in
      record {
        est = estimate_at s at st bank;
        gaps = omega arith;
        delay = omega (arith, delay.soon);
        est_now = λ u lo hi. estimate_now s at st bank u (epoch_in E u (epoch s t) long (omega (arith, div-mul-le_self t E)) hi);
        est_next = λ u lo hi. estimate_next s at st bank u (epoch_in E u (epoch s t + 1) long lo (omega arith)) w;
        opens = opens;
        early = early;
        held = held;
      }

  pub wait_closed : bank < s.banks → 1 ≤ E → s.td ≤ E → Within (at next_filter) → wait_tick s at st bank row ≡ closed_wait s at st bank row
  unfolding closed_wait
  wait_closed bank_in long short w = least_one (wait_least bank_in) (closed_least (rules long short w))

-- ---- the claims

-- one of the two filters
either_filter : (P : ℕ → Type 0) (k : ℕ) → P 0 → P 1 → P (k % 2)
either_filter P k a b = go (ℕ_discrete (k % 2) 0)
  where
    go : Dec (k % 2 ≡ 0) → P (k % 2)
    go (yes z) = rw z a
    go (no z) =
        let o : k % 2 ≡ 1 = omega arith in
        rw o b

pub wait_is_least : (m : Limits) → WaitIsLeast m
unfolding turned moved_head
wait_is_least m s seeds st tick bank thread e at row =
    let ok = taken m s seeds st tick bank thread e in
    wait_least s at (turned s st tick) bank row (taken_memory ok) ok.bank_in

pub wait_is_closed : (m : Limits) → WaitIsClosed m
wait_is_closed m s seeds st tick bank thread e at row w0 w1 =
    let ok = taken m s seeds st tick bank thread e in
    wait_closed s at (turned s st tick) bank row (taken_memory ok) ok.bank_in
    (omega (arith, epoch_long ok.setting)) ok.setting.delay
    (either_filter (λ f. Within (at f)) (epoch s (turned s st tick).head.last + 1) w0 w1)
