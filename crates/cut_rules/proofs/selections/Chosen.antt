-- The records of a selection.
use mathlib.Core.Path.{◌≡◌, refl, ap, ap₂, ◌∙◌}
use mathlib.Core.List.{List, [], ◌∷◌, ◌++◌}
use mathlib.Core.Bool.{Bool, true, false}
use Prim.Native.Nat.{ℕ, zero, suc, ◌+◌, ◌≤◌, ◌<◌}
use native.Mathlib.Omega.{arith}
use lib.Dec.{T}
use lib.ListN.{length, get_or, drop, replicate, length-append, drop_of_length-le}
use Rattle.cut_rules.specs.selections.Selections.{stays, without, chosen}
use Rattle.cut_rules.specs.selections.Claims.{ChosenLength, InOrder, end, same, left, OldOrder, LeavesOne}

-- ---- for a loop over records: the next one, and the end

drop_stays : (sel : List Bool) (i : ℕ) → i < length sel → drop i sel ≡ stays sel i ∷ drop (suc i) sel
drop_stays [] i h = absurd (omega arith)
drop_stays (b ∷ sel) zero h = refl
drop_stays (b ∷ sel) (suc i) h = drop_stays sel i (omega arith)

module _ {A : Type 0} where
  pub chosen_here : (sel : List Bool) (rs : List A) (i : ℕ) (e : A) → i < length sel → drop i rs ≡ e ∷ drop (suc i) rs → stays sel i ≡ true
      → chosen (drop i sel) (drop i rs) ≡ e ∷ chosen (drop (suc i) sel) (drop (suc i) rs)
  chosen_here sel rs i e h next t = ap₂ chosen (drop_stays sel i h ∙ ap (λ b. b ∷ drop (suc i) sel) t) next

  pub chosen_past : (sel : List Bool) (rs : List A) (i : ℕ) (e : A) → i < length sel → drop i rs ≡ e ∷ drop (suc i) rs → stays sel i ≡ false
      → chosen (drop i sel) (drop i rs) ≡ chosen (drop (suc i) sel) (drop (suc i) rs)
  chosen_past sel rs i e h next t = ap₂ chosen (drop_stays sel i h ∙ ap (λ b. b ∷ drop (suc i) sel) t) next

  pub chosen_none : (sel : List Bool) → chosen {A = A} sel [] ≡ []
  chosen_none [] = refl
  chosen_none (b ∷ sel) = refl

  pub chosen_end : (sel : List Bool) (rs : List A) (n : ℕ) → length rs ≤ n → chosen (drop n sel) (drop n rs) ≡ []
  chosen_end sel rs n h = ap (chosen (drop n sel)) (drop_of_length-le rs h) ∙ chosen_none (drop n sel)

-- ---- the claims

pub chosen_length : ChosenLength
chosen_length A [] rs e = refl
chosen_length A (b ∷ sel) [] e = absurd (omega arith)
chosen_length A (true ∷ sel) (r ∷ rs) e = ap suc (chosen_length A sel rs (omega arith))
chosen_length A (false ∷ sel) (r ∷ rs) e = chosen_length A sel rs (omega arith)

none_left : {A : Type 0} (rs : List A) → InOrder [] rs
none_left [] = end
none_left (r ∷ rs) = left (none_left rs)

pub old_order : OldOrder
old_order A [] rs = none_left rs
old_order A (b ∷ sel) [] = end
old_order A (true ∷ sel) (r ∷ rs) = same (old_order A sel rs)
old_order A (false ∷ sel) (r ∷ rs) = left (old_order A sel rs)

pub leaves_one : LeavesOne
leaves_one A d [] rs i e t = absurd t
leaves_one A d (b ∷ sel) [] i e t = absurd (omega arith)
leaves_one A d (true ∷ sel) (r ∷ rs) zero e t = (refl, refl)
leaves_one A d (false ∷ sel) (r ∷ rs) zero e t = absurd t
leaves_one A d (true ∷ sel) (r ∷ rs) (suc i) e t =
    let ih = leaves_one A d sel rs i (omega arith) t in
    (ap (λ l. r ∷ l) ih.0, ap (λ l. r ∷ l) ih.1)
leaves_one A d (false ∷ sel) (r ∷ rs) (suc i) e t = leaves_one A d sel rs i (omega arith) t

-- ---- all records, and each record of a list

pub chosen_all : {A : Type 0} (rs : List A) → chosen (replicate (length rs) true) rs ≡ rs
chosen_all [] = refl
chosen_all (r ∷ rs) = ap (λ l. r ∷ l) (chosen_all rs)

-- the record that stands at a place of the list: which one it is, and the list without it
abbrev pub LeftOut : {A : Type 0} → List Bool → List A → List A → Type 0
LeftOut sel rs out = (i : ℕ) × T (stays sel i) × (chosen (without sel i) rs ≡ out)

pub chosen_place : {A : Type 0} (sel : List Bool) (rs front back : List A) (r : A)
    → chosen sel rs ≡ front ++ (r ∷ back) → LeftOut sel rs (front ++ back)
chosen_place [] rs front back r e =
    let z : 0 ≡ length front + length (r ∷ back) = ap length e ∙ length-append front (r ∷ back) in
    absurd (omega arith)
chosen_place (b ∷ sel) [] front back r e =
    let z : 0 ≡ length front + length (r ∷ back) = ap length e ∙ length-append front (r ∷ back) in
    absurd (omega arith)
chosen_place (true ∷ sel) (x ∷ rs) [] back r e = (0, tt, ap (drop 1) e)
chosen_place (true ∷ sel) (x ∷ rs) (y ∷ front) back r e =
    let ih = chosen_place sel rs front back r (ap (drop 1) e) in
    (suc ih.0, ih.1, ap₂ (λ z l. z ∷ l) (ap (λ l. get_or l 0 x) e) ih.2)
chosen_place (false ∷ sel) (x ∷ rs) front back r e = let ih = chosen_place sel rs front back r e in (suc ih.0, ih.1, ih.2)
