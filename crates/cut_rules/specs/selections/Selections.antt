-- Leaving out records while the others still differ (document 02, k). A selection says of each record whether it stays; a test says of a selection whether
-- it differs.
use Rattle.std.specs.Prelude.{◌≡◌, List, [], ◌∷◌, Bool, true, false, ◌&&◌, cond, ℕ, zero, suc, ◌*◌, ◌/◌, ◌%◌, ◌<◌, eqb, length, get_or, set, replicate}

-- ---- selections

-- how many records stay
abbrev pub kept : List Bool → ℕ
kept [] = 0
kept (true ∷ sel) = suc (kept sel)
kept (false ∷ sel) = kept sel

-- record i, from 0, stays
abbrev pub stays : List Bool → ℕ → Bool
stays sel i = get_or sel i false

-- without record i
abbrev pub without : List Bool → ℕ → List Bool
without sel i = set sel i false

-- "a selection in their old order": the records that stay
abbrev pub chosen : {A : Type 0} → List Bool → List A → List A
chosen [] rs = []
chosen (b ∷ sel) [] = []
chosen (true ∷ sel) (r ∷ rs) = r ∷ chosen sel rs
chosen (false ∷ sel) (r ∷ rs) = chosen sel rs

-- ---- leaving out

-- "Try leaving out", "keep each removal that still differs"
unfoldable pub tried : (List Bool → Bool) → ℕ → List Bool → List Bool
tried differs i sel = cond (stays sel i && differs (without sel i)) (without sel i) sel

-- "from first to last": n records, from record i on
abbrev pub tried_from : (List Bool → Bool) → ℕ → ℕ → List Bool → List Bool
tried_from differs i zero sel = sel
tried_from differs i (suc n) sel = tried_from differs (suc i) n (tried differs i sel)

-- a whole pass
unfoldable pub pass : (List Bool → Bool) → List Bool → List Bool
pass differs sel = tried_from differs 0 (length sel) sel

-- "repeat whole passes until one removes none", with a bound on the passes
abbrev pub passes : (List Bool → Bool) → ℕ → List Bool → List Bool
passes differs zero sel = sel
passes differs (suc n) sel = cond (eqb (kept (pass differs sel)) (kept sel)) sel (passes differs n (pass differs sel))

-- "that selection is the result": n passes are enough for n records
unfoldable pub cut_down : (List Bool → Bool) → ℕ → List Bool
cut_down differs n = passes differs n (replicate n true)

-- The repetition with no bound: k passes remove records, one pass after another, and the next one removes none.
pub data Repeated (differs : List Bool → Bool) : ℕ → List Bool → List Bool → Type 0 where
  stop : {sel : List Bool} → kept (pass differs sel) ≡ kept sel → Repeated differs 0 sel sel
  again : {k : ℕ} {sel r : List Bool} → kept (pass differs sel) < kept sel → Repeated differs k (pass differs sel) r → Repeated differs (suc k) sel r

-- ---- the answer

-- "a 64-bit number, bit i set exactly if record i, from 0, stays"
abbrev pub word : List Bool → ℕ
word [] = 0
word (true ∷ sel) = suc (2 * word sel)
word (false ∷ sel) = 2 * word sel

-- the selection of n records that a number stands for
abbrev pub bits : ℕ → ℕ → List Bool
bits zero m = []
bits (suc n) m = eqb (m % 2) 1 ∷ bits n (m / 2)
