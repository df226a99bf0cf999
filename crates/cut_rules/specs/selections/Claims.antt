-- What is proved of the result (document 02, k), for any test and any number of records: the statements, as types. Their proofs are in proofs/. That no
-- selection of fewer records differs is not among them: it is not so (specs/selections/Samples.antt, `not_fewest`).
use Rattle.std.specs.Prelude.{◌≡◌, List, [], ◌∷◌, ◌++◌, Bool, true, not, ℕ, suc, ◌+◌, ◌/◌, ◌%◌, ◌^◌, ◌≤◌, ◌<◌, T, eqb, length, get_or, take, drop, replicate}
use Rattle.cut_rules.specs.selections.Selections.{kept, stays, without, chosen, pass, passes, cut_down, Repeated, word}

-- ---- the passes

-- "repeat whole passes until one removes none; that selection is the result": k passes that remove records, and then one that removes none, lead from all
-- records to the result. Each of the k has removed a record, so they are no more than the records that are left out.
abbrev pub PassesEnd : Type 0
PassesEnd = (differs : List Bool → Bool) (n : ℕ) → (k : ℕ) × (k + kept (cut_down differs n) ≤ n) × Repeated differs k (replicate n true) (cut_down differs n)

-- They lead to nothing else.
abbrev pub EndAlone : Type 0
EndAlone = (differs : List Bool → Bool) (n k : ℕ) (r : List Bool) → Repeated differs k (replicate n true) r → r ≡ cut_down differs n

-- More passes than the n that bound them come to the same.
abbrev pub AnyBound : Type 0
AnyBound = (differs : List Bool → Bool) (n m : ℕ) → n ≤ m → passes differs m (replicate n true) ≡ cut_down differs n

-- A pass over the result leaves it as it is.
abbrev pub PassLeaves : Type 0
PassLeaves = (differs : List Bool → Bool) (n : ℕ) → pass differs (cut_down differs n) ≡ cut_down differs n

-- ---- the result

abbrev pub ResultLength : Type 0
ResultLength = (differs : List Bool → Bool) (n : ℕ) → length (cut_down differs n) ≡ n

-- "that still does"
abbrev pub StillDiffers : Type 0
StillDiffers = (differs : List Bool → Bool) (n : ℕ) → T (differs (replicate n true)) → T (differs (cut_down differs n))

-- "such that leaving out any single record of it no longer does"
abbrev pub EachNeeded : Type 0
EachNeeded = (differs : List Bool → Bool) (n i : ℕ) → T (stays (cut_down differs n) i) → T (not (differs (without (cut_down differs n) i)))

-- ---- the answer

-- "bit i set exactly if record i, from 0, stays"
abbrev pub WordBit : Type 0
WordBit = (sel : List Bool) (i : ℕ) → eqb (word sel / 2 ^ i % 2) 1 ≡ stays sel i

-- Of 64 records it is "a 64-bit number".
abbrev pub WordBelow : Type 0
WordBelow = (sel : List Bool) → word sel < 2 ^ length sel

-- The answer says which selection it is.
abbrev pub WordAlone : Type 0
WordAlone = (a b : List Bool) → length a ≡ length b → word a ≡ word b → a ≡ b

-- It is not 0 where a record stays; so the answer is not, where no selection without records differs.
abbrev pub WordSome : Type 0
WordSome = (sel : List Bool) → 1 ≤ kept sel → 1 ≤ word sel

abbrev pub AnswerSome : Type 0
AnswerSome =
    (differs : List Bool → Bool) (n : ℕ) → ((sel : List Bool) → kept sel ≡ 0 → T (not (differs sel))) → T (differs (replicate n true))
    → 1 ≤ word (cut_down differs n)

-- ---- the records of a selection

abbrev pub ChosenLength : Type 1
ChosenLength = (A : Type 0) (sel : List Bool) (rs : List A) → length sel ≡ length rs → length (chosen sel rs) ≡ kept sel

-- The first list is the second with records left out, "in their old order".
pub data InOrder {A : Type 0} : List A → List A → Type 0 where
  end : InOrder [] []
  same : {r : A} {xs rs : List A} → InOrder xs rs → InOrder (r ∷ xs) (r ∷ rs)
  left : {r : A} {xs rs : List A} → InOrder xs rs → InOrder xs (r ∷ rs)

abbrev pub OldOrder : Type 1
OldOrder = (A : Type 0) (sel : List Bool) (rs : List A) → InOrder (chosen sel rs) rs

-- the records of a selection before record i, and those behind it
abbrev pub before : {A : Type 0} → List Bool → List A → ℕ → List A
before sel rs i = chosen (take i sel) (take i rs)

abbrev pub behind : {A : Type 0} → List Bool → List A → ℕ → List A
behind sel rs i = chosen (drop (suc i) sel) (drop (suc i) rs)

-- Record i stands between them where it stays, and without it the list has the others. (d only completes `get_or`.)
abbrev pub LeavesOne : Type 1
LeavesOne =
    (A : Type 0) (d : A) (sel : List Bool) (rs : List A) (i : ℕ) → length sel ≡ length rs → T (stays sel i)
    → (chosen sel rs ≡ before sel rs i ++ (get_or rs i d ∷ behind sel rs i)) × (chosen (without sel i) rs ≡ before sel rs i ++ behind sel rs i)

-- ---- the same of lists

-- What a test of lists of records finds: "a selection in their old order that still" differs, "such that leaving out any single record of it no longer does".
pub record CutList {A : Type 0} (differs : List A → Bool) (rs out : List A) : Type 0 where
  pub order : InOrder out rs
  pub still : T (differs out)
  pub needed : (front back : List A) (r : A) → out ≡ front ++ (r ∷ back) → T (not (differs (front ++ back)))

abbrev pub CutsList : Type 1
CutsList =
    (A : Type 0) (differs : List A → Bool) (rs : List A) → T (differs rs)
    → CutList differs rs (chosen (cut_down (λ sel. differs (chosen sel rs)) (length rs)) rs)

-- ---- all of it

pub record Theorems : Type 1 where
  pub passes_end : PassesEnd
  pub end_alone : EndAlone
  pub any_bound : AnyBound
  pub pass_leaves : PassLeaves
  pub result_length : ResultLength
  pub still_differs : StillDiffers
  pub each_needed : EachNeeded
  pub word_bit : WordBit
  pub word_below : WordBelow
  pub word_alone : WordAlone
  pub word_some : WordSome
  pub answer_some : AnswerSome
  pub chosen_length : ChosenLength
  pub old_order : OldOrder
  pub leaves_one : LeavesOne
  pub cuts_list : CutsList
