-- What the passes come to.
use mathlib.Core.Path.{◌≡◌, sym, ◌∙◌, subst}
use mathlib.Core.List.{List, ◌++◌}
use mathlib.Core.Bool.{Bool, true, false, not}
use Prim.Native.Nat.{ℕ, ◌≤◌, ◌<◌}
use native.Mathlib.Omega.{arith}
use native.Mathlib.Decide.{dec_lt}
use lib.Dec.{T}
use lib.ListN.{length, replicate, length-replicate}
use Rattle.cut_rules.specs.selections.Selections.{kept, chosen, pass, cut_down}
use Rattle.cut_rules.specs.selections.Claims.{PassesEnd, EndAlone, AnyBound, PassLeaves, ResultLength, StillDiffers, EachNeeded, AnswerSome, CutsList}
use Rattle.cut_rules.proofs.selections.Words.{word_some}
use Rattle.cut_rules.proofs.selections.Passes.{kept_all, pass_length, pass_differs, pass_none, passes_keep, ended, repeated_passes, repeated_few, repeated_rest, enough}
use Rattle.cut_rules.proofs.selections.Chosen.{old_order, chosen_all, LeftOut, chosen_place}

-- ---- the passes

pub passes_end : PassesEnd
unfolding cut_down
passes_end differs n =
    let t = ended differs n (replicate n true) (omega (arith, kept_all n)) in
    (t.0, omega (arith, kept_all n), t.2)

pub end_alone : EndAlone
unfolding cut_down
end_alone differs n k r p = sym (repeated_passes differs p n (omega (arith, repeated_few differs p, kept_all n)))

pub any_bound : AnyBound
unfolding cut_down
any_bound differs n m h = enough differs n m (replicate n true) (omega (arith, kept_all n)) (omega (arith, kept_all n))

-- a pass over the result removes none
at_rest : (differs : List Bool → Bool) (n : ℕ) → kept (cut_down differs n) ≤ kept (pass differs (cut_down differs n))
at_rest differs n = omega (arith, repeated_rest differs (passes_end differs n).2)

pub pass_leaves : PassLeaves
pass_leaves differs n = (pass_none differs (cut_down differs n) (at_rest differs n)).0

-- ---- the result

pub result_length : ResultLength
unfolding cut_down
result_length differs n = passes_keep differs (λ r. length r ≡ n) (λ sel e. pass_length differs sel ∙ e) n (replicate n true) (length-replicate n true)

pub still_differs : StillDiffers
unfolding cut_down
still_differs differs n d = passes_keep differs (λ r. T (differs r)) (pass_differs differs) n (replicate n true) d

pub each_needed : EachNeeded
each_needed differs n = (pass_none differs (cut_down differs n) (at_rest differs n)).1

pub answer_some : AnswerSome
answer_some differs n none d = word_some (cut_down differs n) (go (dec_lt (kept (cut_down differs n)) 1))
  where
    go : Dec (kept (cut_down differs n) < 1) → 1 ≤ kept (cut_down differs n)
    go (yes l) = absurd (both (differs (cut_down differs n)) (still_differs differs n d) (none (cut_down differs n) (omega arith)))
      where
        both : (b : Bool) → T b → T (not b) → ⊥
        both true s t = t
        both false s t = s
    go (no l) = omega arith

-- ---- the same of lists

pub cuts_list : CutsList
cuts_list A differs rs d =
    record {
      order = old_order A (cut_down test (length rs)) rs;
      still = still_differs test (length rs) (subst (λ l. T (differs l)) (sym (chosen_all rs)) d);
      needed = λ front back r e. without_one front back (chosen_place (cut_down test (length rs)) rs front back r e);
    }
  where
    test : List Bool → Bool
    test sel = differs (chosen sel rs)

    without_one : (front back : List A) → LeftOut (cut_down test (length rs)) rs (front ++ back) → T (not (differs (front ++ back)))
    without_one front back (i, t, e) = subst (λ l. T (not (differs l))) e (each_needed test (length rs) i t)
