-- What is proved of two probes (document 02, i): the statements, as types. Their proofs are in proofs/.
use Rattle.std.specs.Prelude.{◌≡◌, ◌⊎◌, List, [], ◌∷◌, not, cond, ℕ, suc, ◌^◌, ◌≤◌, ◌<◌, T, eqb, length, ℤ, negsuc, nat_abs}
use Rattle.std.specs.Int.Signed.{le_z}
use Rattle.std.specs.Int.{w64}
use Rattle.std.proofs.Common.{of_z, to_z}
use Rattle.rules.specs.Cells.{every}
use Rattle.probe_rules.specs.Probes.{Probe, tick_at, word_at, probes_refusal, same_row, near, fits, least_offset, verdict_of, code_of, out_of}
use Rattle.probe_rules.specs.Closed.{alike, greatest, least, closed}

-- ---- refusals

-- both buffers hold the list
abbrev pub Held : Probe → Type 0
Held p = (p.count ≤ length p.ticks) × (p.count ≤ length p.rows)

-- every tick of the list is below 2^62
abbrev pub OnTime : Probe → Type 0
OnTime p = (i : ℕ) → i < p.count → tick_at p i < 2 ^ 62

-- Nothing is refused exactly where the buffers hold the lists, the jitter is at most 1,000 and every tick of both lists is below 2^62; 6 is given where a
-- buffer does not hold its list, and 18 where they do and something else is wrong.
pub record Accepted (x y : Probe) (j : ℕ) : Type 0 where
  pub here : Held x
  pub there : Held y
  pub jitter : j ≤ 1000
  pub first : OnTime x
  pub second : OnTime y

abbrev pub RefusedExactly : Type 0
RefusedExactly =
    (x y : Probe) (j : ℕ)
    → (probes_refusal x y j ≡ 0 → Accepted x y j)
    × (Accepted x y j → probes_refusal x y j ≡ 0)
    × ((Held x × Held y → ⊥) → probes_refusal x y j ≡ 6)
    × (Held x → Held y → (Accepted x y j → ⊥) → probes_refusal x y j ≡ 18)

-- A refusal's number is returned, and out is left as it was.
abbrev pub RefusedLeaves : Type 0
RefusedLeaves =
    (x y : Probe) (j n : ℕ) (before : List ℕ) → probes_refusal x y j ≡ suc n
    → (code_of (verdict_of x y j) ≡ suc n) × (out_of (verdict_of x y j) before ≡ before)

-- ---- the least d

-- "the least d", "from −1,000 to 1,000", "for which each pair" fits
pub record LeastFit (j : ℕ) (x y : Probe) (d : ℤ) : Type 0 where
  pub within : nat_abs d ≤ 1000
  pub passes : T (fits j d x y)
  pub first : (c : ℤ) → nat_abs c ≤ 1000 → T (fits j c x y) → T (le_z d c)

-- The words 1 and d are left exactly where d is the least that fits: what the second word says, read as a signed number, and the other way round.
abbrev pub AnswersLeast : Type 0
AnswersLeast =
    (x y : Probe) (j : ℕ) (before : List ℕ) → probes_refusal x y j ≡ 0
    → ((word : ℕ) → out_of (verdict_of x y j) before ≡ 1 ∷ word ∷ [] → LeastFit j x y (to_z w64 word))
    × ((d : ℤ) → LeastFit j x y d → (code_of (verdict_of x y j) ≡ 0) × (out_of (verdict_of x y j) before ≡ 1 ∷ of_z w64 d ∷ []))

-- ---- no fit

-- some pair has another bank or row in the second list than in the first
pub record OtherRow (x y : Probe) : Type 0 where
  pub place : ℕ
  pub here : place < x.count
  pub there : place < y.count
  pub other : T (not (same_row x y place))

-- "the lists differ in length, bank or row, or no such d exists": the last is that no d is within j of every difference. Where the second list is shorter
-- than the first, the first of the three is so already.
abbrev pub Apart : ℕ → Probe → Probe → Type 0
Apart j x y =
    (x.count ≡ y.count → ⊥)
    ⊎ OtherRow x y
    ⊎ ((d : ℤ) → nat_abs d ≤ 1000 → T (not (every x.count (near j d x y))))

-- "Say that they do not fit precisely when" that is so: the words 0 and 0 are left.
abbrev pub NoFitExactly : Type 0
NoFitExactly =
    (x y : Probe) (j : ℕ) (before : List ℕ) → probes_refusal x y j ≡ 0
    → (out_of (verdict_of x y j) before ≡ 0 ∷ 0 ∷ [] → Apart j x y)
    × (Apart j x y → (code_of (verdict_of x y j) ≡ 0) × (out_of (verdict_of x y j) before ≡ 0 ∷ 0 ∷ []))

-- "Two empty lists fit with −1,000."
abbrev pub EmptyFit : Type 0
EmptyFit =
    (x y : Probe) (j : ℕ) (before : List ℕ) → x.count ≡ 0 → y.count ≡ 0 → j ≤ 1000
    → (code_of (verdict_of x y j) ≡ 0) × (out_of (verdict_of x y j) before ≡ 1 ∷ of_z w64 (negsuc 999) ∷ [])

-- ---- what is looked at

-- the same records, in buffers that hold them
pub record SameRecords (x z : Probe) : Type 0 where
  pub here : Held x
  pub there : Held z
  pub counts : x.count ≡ z.count
  pub ticks : (i : ℕ) → i < x.count → tick_at x i ≡ tick_at z i
  pub words : (i : ℕ) → i < x.count → word_at x i ≡ word_at z i

-- Cells behind the records play no part.
abbrev pub OnlyRecords : Type 0
OnlyRecords = (x y z w : Probe) (j : ℕ) → SameRecords x z → SameRecords y w → verdict_of x y j ≡ verdict_of z w j

-- The same bank and row is the same word.
abbrev pub SameWord : Type 0
SameWord = (x y : Probe) (i : ℕ) → same_row x y i ≡ eqb (word_at x i) (word_at y i)

-- The code's closed form is the least offset.
abbrev pub ClosedForm : Type 0
ClosedForm =
    (x y : Probe) (j : ℕ) → probes_refusal x y j ≡ 0
    → least_offset j x y ≡ cond (alike x y) (closed j (greatest x.ticks y.ticks x.count) (least x.ticks y.ticks x.count)) 2001

-- ---- all of it

pub record Theorems : Type 0 where
  pub refused_exactly : RefusedExactly
  pub refused_leaves : RefusedLeaves
  pub answers_least : AnswersLeast
  pub no_fit_exactly : NoFitExactly
  pub empty_fit : EmptyFit
  pub only_records : OnlyRecords
  pub same_word : SameWord
  pub closed_form : ClosedForm
