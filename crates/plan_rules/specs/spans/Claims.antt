-- What is proved of spans of every length (document 02, m): the statements, as types. Their proofs are in proofs/. The bound itself is `span_bound`, and
-- that no list of calls exceeds it is `Spans`, both in the crate `rules`.
use Rattle.std.specs.Prelude.{◌≡◌, List, ℕ, ◌+◌, ◌-◌, ◌*◌, ◌/◌, ◌≤◌, T, Ok}
use Rattle.rules.specs.declared.Setting.{Setting}
use Rattle.rules.specs.Answers.{none}
use Rattle.rules.specs.Setting.{setting_of, row_bound, seeds_in_range, setting_refusal}
use Rattle.rules.specs.Policy.{limits01, limits02, narrow, wide}
use Rattle.rules.specs.Calls.{times_activated}
use Rattle.rules.specs.Claims.{span_bound, Spans}
use Rattle.widths.specs.Claims.{SpansOver}
use Rattle.interface.specs.Claims.{Lent, Width, rules_of, left_by_setup, lent_after, ListFrom, openings_from, SpansOverForC}
use Rattle.plan_rules.specs.spans.Spans.{span_refusal, span_of}

-- ---- the answer

-- What the answer says of a C program's calls: "A row is opened at most" so many times in x successive ticks, in every list after a set-up that
-- returned 0, at either width, refused calls and a change-over included, with any seeds and any memory.
abbrev pub NeverMore : Type 0
NeverMore =
    (setting : List ℕ) (x most : ℕ) → span_of (setting_of setting) x ≡ Ok most
    → (w : Width) (seeds : List ℕ) (m : Lent) → (left_by_setup (rules_of w) setting seeds m).code ≡ 0
    → (cs : ListFrom setting seeds w (lent_after (left_by_setup (rules_of w) setting seeds m))) (bank row start : ℕ)
    → times_activated bank row start x (openings_from setting seeds cs) ≤ most

-- Every setting that either width accepts with some seeds has an answer for every x from 1 on, and it is the formula.
abbrev pub Answered : Type 0
Answered =
    (s : Setting) (seeds : List ℕ) (x : ℕ) → 1 ≤ x
    → (setting_refusal limits01 s seeds ≡ none → span_of s x ≡ Ok (span_bound s x)) × (setting_refusal limits02 s seeds ≡ none → span_of s x ≡ Ok (span_bound s x))

-- The refusal does not depend on seeds, as long as they are in range.
abbrev pub SeedsPlayNoPart : Type 0
SeedsPlayNoPart = (s : Setting) (seeds : List ℕ) (x : ℕ) → T (seeds_in_range seeds) → 1 ≤ x → span_refusal s x ≡ setting_refusal limits02 s seeds

-- ---- the bound against x, of a setting that is accepted

-- A longer span never has a smaller bound.
abbrev pub NeverFalls : Type 0
NeverFalls = (s : Setting) (seeds : List ℕ) → setting_refusal limits02 s seeds ≡ none → (x y : ℕ) → x ≤ y → span_bound s x ≤ span_bound s y

-- The bound is at most one activation a tick.
abbrev pub OneATick : Type 0
OneATick = (s : Setting) (seeds : List ℕ) → setting_refusal limits02 s seeds ≡ none → (x : ℕ) → 1 ≤ x → span_bound s x ≤ x

-- For k windows of W ticks the bound counts N × (k + 1) activations as free of the delay; for one window it is B, by which refusal 5 is decided.
abbrev pub InWindows : Type 0
InWindows =
    (s : Setting) (seeds : List ℕ) → setting_refusal limits02 s seeds ≡ none
    → (k : ℕ) → 1 ≤ k → span_bound s (k * s.w) ≡ s.n * (k + 1) + 1 + (k * s.w - 1 - s.n * (k + 1) * s.trc) / s.td

abbrev pub InOneWindow : Type 0
InOneWindow = (s : Setting) (seeds : List ℕ) → setting_refusal limits02 s seeds ≡ none → span_bound s s.w ≡ row_bound s

-- ---- all of it

pub record Theorems : Type 0 where
  -- of the rules in force at both widths, of lists with a change-over, and of a C program's lists; they stand in `rules`, `widths` and `interface`
  pub spans_narrow : Spans narrow
  pub spans_wide : Spans wide
  pub spans_over : SpansOver
  pub spans_over_for_c : SpansOverForC
  pub never_more : NeverMore
  pub answered : Answered
  pub seeds_play_no_part : SeedsPlayNoPart
  pub never_falls : NeverFalls
  pub one_a_tick : OneATick
  pub in_windows : InWindows
  pub in_one_window : InOneWindow
