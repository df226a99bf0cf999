-- What the rules say of records does not depend on the memory, if set-up accepts it.
use mathlib.Core.Path.{◌≡◌, sym, ap, ◌∙◌, subst}
use mathlib.Core.List.{List}
use Prim.Native.Nat.{ℕ}
use lib.ListN.{length}
use Rattle.rules.specs.declared.Setting.{Setting}
use Rattle.rules.specs.Answers.{none}
use Rattle.rules.specs.State.{State, fresh}
use Rattle.rules.specs.Policy.{Policy}
use Rattle.rules.specs.Calls.{Reply, setup_refusal, activations}
use Rattle.rules.specs.Claims.{UsedFlying}
use Rattle.rules.proofs.Accept.{set_up_lem}
use Rattle.rules.proofs.Sound.{fresh_sound}
use Rattle.assurances.proofs.Used.{fresh_used, same_replies}
use Rattle.log_format.specs.declared.Entry.{Entry}
use Rattle.log_format.specs.Verdict.{agrees, judged, memory}
use Rattle.log_format.specs.Claims.{calls_of, records_of, setting_of_log, seeds_of_log, rules_say, rules_say_in, Decided, OnlyIfAnywhere, WheneverAnywhere}
use Rattle.log_format.proofs.Agrees.{setup_accepts, accepts_setup, only_if, whenever}

pub same_said : (p : Policy) → UsedFlying p → (s : Setting) (seeds : List ℕ) (before : State) → setup_refusal p.limits s seeds before ≡ none
    → (es : List Entry) → rules_say_in p before s seeds es ≡ rules_say p s seeds es
same_said p fly s seeds before e es =
    let m = p.limits in
    let ok = accepts_setup m s seeds before e in
    let here = fresh_sound m s seeds (memory m) (set_up_lem m s seeds (memory m) (setup_accepts m s seeds ok)) in
    let there = fresh_sound m s seeds before (set_up_lem m s seeds before e) in
    (same_replies p fly m s seeds ok ok (fresh s (memory m)) (fresh s before) (fresh_used s (memory m) before here.long there.long) (calls_of es)).0

pub only_if_anywhere : (p : Policy) → UsedFlying p → OnlyIfAnywhere p
only_if_anywhere p fly bytes r o h before e =
    let f = only_if p bytes r o h in
    let same = same_said p fly (setting_of_log bytes) (seeds_of_log bytes) before e (records_of bytes) in (
      subst (λ (rs : List Reply). Decided (records_of bytes) rs) (sym same) f.0.decided,
      f.2 ∙ ap (λ (rs : List Reply). length (activations (calls_of (records_of bytes)) rs)) (sym same),
    )

pub whenever_anywhere : (p : Policy) → UsedFlying p → WheneverAnywhere p
whenever_anywhere p fly bytes w before e d =
    let same = same_said p fly (setting_of_log bytes) (seeds_of_log bytes) before e (records_of bytes) in
    whenever p bytes
    (record {
      well_formed = w;
      accepted = accepts_setup p.limits (setting_of_log bytes) (seeds_of_log bytes) before e;
      decided = subst (λ (rs : List Reply). Decided (records_of bytes) rs) same d;
    })
    ∙ ap (λ (rs : List Reply). judged (length (records_of bytes)) (length (activations (calls_of (records_of bytes)) rs)) agrees) (sym same)
