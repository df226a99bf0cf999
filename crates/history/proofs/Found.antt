-- What the result of the search tells, for any contents of the history.
use Rattle.std.proofs.Common.{◌≡◌, ℕ, ◌+◌, ◌-◌, ◌^◌, ◌<◌, ◌≤◌, Bool, true, false, T, ◌⊎◌, List, Option, Some, None, IfSome, eqb, cond, length, get_or, inl, inr, refl, eq-eqb, ne_eqb, arith}
use Rattle.rules.specs.History.{matches, find}
use Rattle.rules.proofs.Ring.{back_lt, match_parts, Found, all_found}
use Rattle.history.specs.Found.{place_found, end_of}

module _ (h td p : ℕ) (ticks rows : List ℕ) (word t : ℕ) (ph : p < h) where
  -- what the search yields
  abbrev pub place : ℕ
  place = find h td p ticks rows word t

  -- it is h, or a place of the ring that matches
  abbrev pub Told : Type 0
  Told = (place ≡ h) ⊎ ((place < h) × T (matches td word t (get_or ticks place 0) (get_or rows place 0)))

  pub told : Told
  told = go (all_found h td p ticks rows word t ph)
    where
      go : Found h td p ticks rows word t ph 0 h place → Told
      go (inl f) = inl f.0
      go (inr f) = inr (rw f.1 (back_lt h p ph f.0 (omega (arith, f.3))), rw f.1 f.4)

  -- a place that was found holds a stored tick from 1 to t + 1
  pub found_stored : place < h → (1 ≤ get_or ticks place 0) × (get_or ticks place 0 ≤ t + 1)
  found_stored l = go told
    where
      go : Told → (1 ≤ get_or ticks place 0) × (get_or ticks place 0 ≤ t + 1)
      go (inl e) = absurd (omega arith)
      go (inr m) = let s = match_parts td word t (get_or ticks place 0) (get_or rows place 0) m.1 in (omega arith, omega arith)

  -- the same of a result, as `delay_end` asks for it
  pub found_fits : h ≤ length ticks → t < 2 ^ 62 → (r : Option ℕ) → r ≡ place_found h place
      → IfSome r (λ q. (q < length ticks) × (1 ≤ get_or ticks q 0) × (get_or ticks q 0 ≤ 2 ^ 62 + 1))
  unfolding place_found
  found_fits long early r e = go told
    where
      go : Told → IfSome r (λ q. (q < length ticks) × (1 ≤ get_or ticks q 0) × (get_or ticks q 0 ≤ 2 ^ 62 + 1))
      go (inl n) = rw (e, eq-eqb place h n) tt
      go (inr m) =
          let s = found_stored m.0 in
          rw (e, ne_eqb place h (omega (arith, m.0))) (omega arith, s.0, omega (arith, s.1))

-- the end of the delay by the rules' place
pub end_found : (ticks : List ℕ) (td h place : ℕ) → end_of ticks td (place_found h place) ≡ cond (eqb place h) 0 (get_or ticks place 0 - 1 + td)
unfolding place_found
end_found ticks td h place = go (eqb place h)
  where
    go : (b : Bool) → end_of ticks td (cond b None (Some place)) ≡ cond b 0 (get_or ticks place 0 - 1 + td)
    go true = refl
    go false = refl
