-- The row rule's look at the history from a tick t on: it is free of the row from the tick at which the newest match at t is tD old.
use mathlib.Core.Path.{◌≡◌, sym, ap, ◌∙◌, subst}
use mathlib.Core.Logic.{◌≢◌, ◌⊎◌, inl, inr}
use mathlib.Core.List.{List}
use mathlib.Core.Bool.{not, cond}
use Prim.Native.Nat.{ℕ, ◌+◌, ◌-◌, ◌≤◌, ◌<◌}
use native.Mathlib.Omega.{arith}
use native.Mathlib.Decide.{dec_lt}
use lib.Dec.{T, eqb, eqb→eq, eqb_refl, not_T, T_not}
use lib.ListN.{get_or}
use Rattle.rules.specs.History.{back, never_rises, row_free, find}
use Rattle.rules.proofs.Tests.{cond_yes, cond_no}
use Rattle.rules.proofs.Ring.{back_lt, falls, Match, match_parts, match_make, hit, Found, all_found, free_none, none_free}

-- ---- the tick from which the history is free of the row

-- the tick at which the newest match at t is tD old, 0 for none
abbrev pub row_end : ℕ → ℕ → ℕ → List ℕ → List ℕ → ℕ → ℕ → ℕ
row_end h td p ticks rows word t =
    let place = find h td p ticks rows word t in
    cond (eqb place h) 0 (get_or ticks place 0 - 1 + td)

-- d is the tick, from t on, from which the history is free of the row, and at most tD after t
pub record Delayed (h td : ℕ) (ticks rows : List ℕ) (word t d : ℕ) : Type 0 where
  pub held : (u : ℕ) → t ≤ u → u < d → T (not (row_free h td ticks rows word u))
  pub free : (u : ℕ) → t ≤ u → d ≤ u → T (row_free h td ticks rows word u)
  pub soon : d ≤ t + td

module _ (h td p : ℕ) (ticks rows : List ℕ) (word t : ℕ) (ph : p < h)
    (steady : T (never_rises h p ticks)) (kept : (q : ℕ) → q < h → get_or ticks q 0 - 1 ≤ t) where
  abbrev stored : ℕ → ℕ
  stored i = get_or ticks (back h p i) 0

  abbrev word_at : ℕ → ℕ
  word_at i = get_or rows (back h p i) 0

  -- no match at t, or the k-th newest place is the first match
  abbrev Ends : ℕ → Type 0
  Ends d =
      ((d ≡ 0) × ((i : ℕ) → i < h → Match td word t (stored i) (word_at i) → ⊥))
      ⊎ ((k : ℕ) × (d ≡ stored k - 1 + td) × (k < h) × Match td word t (stored k) (word_at k) × ((i : ℕ) → i < k → Match td word t (stored i) (word_at i) → ⊥))

  no_match : (i : ℕ) → T (not (hit h td p ticks rows word t ph i)) → Match td word t (stored i) (word_at i) → ⊥
  no_match i n m = T_not (hit h td p ticks rows word t ph i) n (match_make td word t (stored i) (word_at i) m)

  ends : Ends (row_end h td p ticks rows word t)
  ends = go (find h td p ticks rows word t) (all_found h td p ticks rows word t ph)
    where
      go : (f : ℕ) → Found h td p ticks rows word t ph 0 h f → Ends (cond (eqb f h) 0 (get_or ticks f 0 - 1 + td))
      go f (inl (e, none)) =
          inl (cond_yes (eqb f h) 0 (get_or ticks f 0 - 1 + td) (subst (λ x. T (eqb x h)) (sym e) (eqb_refl h)), λ i k. no_match i (none i (omega arith) (omega arith)))
      go f (inr m) =
          let kh : m.0 < h = omega (arith, m.3) in
          let other : f ≢ h = λ z. omega (arith, m.1, z, back_lt h p ph m.0 kh) in
          inr (
            m.0,
            cond_no (eqb f h) 0 (get_or ticks f 0 - 1 + td) (not_T (eqb f h) (λ q. other (eqb→eq f h q))) ∙ ap (λ x. get_or ticks x 0 - 1 + td) m.1,
            kh,
            match_parts td word t (stored m.0) (word_at m.0) m.4,
            λ i k. no_match i (m.5 i (omega arith) k),
          )

  -- a match at a later tick is one at t
  match_before : (u i : ℕ) → t ≤ u → i < h → Match td word u (stored i) (word_at i) → Match td word t (stored i) (word_at i)
  match_before u i tu ih m = record { some = m.some; same = m.same; past = kept (back h p i) (back_lt h p ph i ih); young = omega (arith, m.young) }

  held : (u : ℕ) → t ≤ u → u < row_end h td p ticks rows word t → T (not (row_free h td ticks rows word u))
  held u tu hi = not_T (row_free h td ticks rows word u) (λ q. go q ends)
    where
      go : T (row_free h td ticks rows word u) → Ends (row_end h td p ticks rows word t) → ⊥
      go q (inl (e, none)) = omega (arith, e, hi)
      go q (inr (k, e, kh, m, first)) =
          T_not (hit h td p ticks rows word u ph k) (free_none h td p ticks rows word u ph q k kh)
          (match_make td word u (stored k) (word_at k)
          (record { some = m.some; same = m.same; past = omega (arith, m.past); young = omega (arith, e, hi) }))

  free : (u : ℕ) → t ≤ u → row_end h td p ticks rows word t ≤ u → T (row_free h td ticks rows word u)
  free u tu lo =
      none_free h td p ticks rows word u ph
      (λ i ih. not_T (hit h td p ticks rows word u ph i) (λ q. go i ih (match_parts td word u (stored i) (word_at i) q) ends))
    where
      go : (i : ℕ) → i < h → Match td word u (stored i) (word_at i) → Ends (row_end h td p ticks rows word t) → ⊥
      go i ih m (inl (e, none)) = none i ih (match_before u i tu ih m)
      go i ih m (inr (k, e, kh, mk, first)) = pick (dec_lt i k)
        where
          pick : Dec (i < k) → ⊥
          pick (yes l) = first i l (match_before u i tu ih m)
          pick (no l) =
              let z : k + (i - k) ≡ i = omega arith in
              let older : stored i ≤ stored k = subst (λ x. stored x ≤ stored k) z (falls h p ticks steady k (i - k) (omega arith)) in
              omega (arith, older, m.young, m.some, e, lo)

  soon : row_end h td p ticks rows word t ≤ t + td
  soon = go ends
    where
      go : Ends (row_end h td p ticks rows word t) → row_end h td p ticks rows word t ≤ t + td
      go (inl (e, none)) = omega (arith, e)
      go (inr (k, e, kh, m, first)) = omega (arith, e, m.past)

  pub delayed : Delayed h td ticks rows word t (row_end h td p ticks rows word t)
  delayed = record { held = held; free = free; soon = soon }
