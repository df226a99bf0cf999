-- Small cases, computed by the definitions.
use Rattle.std.specs.Prelude.{◌≡◌, [], ◌∷◌, ℕ, ◌-◌, ◌^◌, Some, None, Ok, Err}
use Rattle.probe_rules.specs.declared.ProbeRefusal.TheVariants.{ShortBuffer, BadInput}
use Rattle.probe_rules.specs.Probes.{Probe, lent, refusal_number, verdict_of, out_of}

-- a list of one record, and one of two
abbrev one : ℕ → ℕ → Probe
one tick word = lent (tick ∷ []) (word ∷ []) 1

abbrev two : ℕ → ℕ → Probe
two tick next = lent (tick ∷ next ∷ []) (7 ∷ 7 ∷ []) 2

-- the first n of two records, of which the second has a late tick
abbrev late_second : ℕ → ℕ → Probe
late_second tick n = lent (tick ∷ 2 ^ 62 ∷ []) (7 ∷ 9 ∷ []) n

pub record Cases : Type 0 where
  -- differences 0 and 5: d is 2 with a jitter of 3, and none fits with 2
  pub least : verdict_of (two 7 9) (two 7 14) 3 ≡ Ok (Some 1002)
  pub too_far : verdict_of (two 7 9) (two 7 14) 2 ≡ Ok None
  -- a difference of −2,000 fits with −1,000 and the greatest jitter, one of 2,000 with 1,000
  pub lowest : verdict_of (one 2000 7) (one 0 7) 1000 ≡ Ok (Some 0)
  pub below : verdict_of (one 2001 7) (one 0 7) 1000 ≡ Ok None
  pub highest : verdict_of (one 0 7) (one 2000 7) 1000 ≡ Ok (Some 2000)
  pub above : verdict_of (one 0 7) (one 2001 7) 1000 ≡ Ok None
  -- −1,000 and 1,000 without jitter; the greatest tick
  pub exact_low : verdict_of (one (2 ^ 62 - 1) 7) (one (2 ^ 62 - 1001) 7) 0 ≡ Ok (Some 0)
  pub exact_high : verdict_of (one (2 ^ 62 - 1001) 7) (one (2 ^ 62 - 1) 7) 0 ≡ Ok (Some 2000)
  -- another bank, another row, another length
  pub bank : verdict_of (one 5 7) (one 5 65543) 0 ≡ Ok None
  pub row : verdict_of (one 5 7) (one 5 8) 0 ≡ Ok None
  pub length : verdict_of (late_second 5 1) (late_second 5 0) 0 ≡ Ok None
  -- two empty lists
  pub empty : verdict_of (late_second 5 0) (late_second 6 0) 0 ≡ Ok (Some 0)
  pub word : out_of (Ok (Some 0)) [] ≡ 1 ∷ 18446744073709550616 ∷ []
  -- a late tick without a partner, in either list, and one behind a pair with another row; a jitter; a count, which comes before both
  pub late : verdict_of (late_second 5 1) (late_second 5 2) 0 ≡ Err BadInput
  pub late_first : verdict_of (late_second 5 2) (late_second 5 1) 0 ≡ Err BadInput
  pub late_behind : verdict_of (late_second 5 2) (lent (5 ∷ 6 ∷ []) (8 ∷ 9 ∷ []) 2) 0 ≡ Err BadInput
  pub jitter : verdict_of (late_second 5 0) (late_second 5 0) 1001 ≡ Err BadInput
  pub short : verdict_of (late_second 5 2) (late_second 5 3) 1001 ≡ Err ShortBuffer
  pub short_ticks : verdict_of (lent [] (7 ∷ []) 1) (one 5 7) 0 ≡ Err ShortBuffer
  pub short_rows : verdict_of (one 5 7) (lent (5 ∷ []) [] 1) 0 ≡ Err ShortBuffer
  -- the numbers of both refusals
  pub short_is : refusal_number ShortBuffer ≡ 6
  pub bad_is : refusal_number BadInput ≡ 18
