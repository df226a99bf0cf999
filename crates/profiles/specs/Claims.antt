-- What is proved of the profiles of document 02, g, for the limits m of every width: the statements, as types. Their proofs are in proofs/.
use Rattle.std.specs.Prelude.{◌≡◌, ◌≢◌, List, ℕ, ◌≤◌, T}
use Rattle.rules.specs.declared.Setting.{Setting}
use Rattle.rules.specs.declared.Limits.{Limits}
use Rattle.rules.specs.Answers.{none, out_of_range, above_profile}
use Rattle.rules.specs.Setting.{with_mark, known, history_length, setting_refusal}
use Rattle.rules.specs.State.{State}
use Rattle.rules.specs.Policy.{in_force}
use Rattle.rules.specs.Calls.{Call, setup, step, replies, after}
use Rattle.profiles.specs.Former.{refusal01}

-- ---- refusals

-- "big cards keep their limits": under the large profile the refusals about a setting are those of document 01.
abbrev pub KeepsLimits : Type 0
KeepsLimits = (m : Limits) (s : Setting) (seeds : List ℕ) → s.profile ≡ 0 → setting_refusal m s seeds ≡ refusal01 m s seeds

-- "Any other mark is 1 in a call", whatever else is wrong with the setting.
abbrev pub OtherMark : Type 0
OtherMark = (m : Limits) (s : Setting) (seeds : List ℕ) → 2 ≤ s.profile → setting_refusal m s seeds ≡ out_of_range

-- "16 .. after 5": a setting that gets it meets no other refusal, so the large profile accepts it.
abbrev pub OnlyAbove : Type 0
OnlyAbove = (m : Limits) (s : Setting) (seeds : List ℕ) → setting_refusal m s seeds ≡ above_profile → setting_refusal m (with_mark 0 s) seeds ≡ none

-- What the large profile refuses, every profile refuses, with the same number.
abbrev pub RefusedAlike : Type 0
RefusedAlike =
    (m : Limits) (s : Setting) (seeds : List ℕ) → T (known s.profile) → setting_refusal m (with_mark 0 s) seeds ≢ none
    → setting_refusal m s seeds ≡ setting_refusal m (with_mark 0 s) seeds

-- The small profile accepts what the large one accepts with "at most 4 banks and 1,024 history places", and nothing else.
abbrev pub SmallAccepts : Type 0
SmallAccepts =
    (m : Limits) (s : Setting) (seeds : List ℕ) → setting_refusal m (with_mark 0 s) seeds ≡ none
    → (setting_refusal m (with_mark 1 s) seeds ≡ none → (s.banks ≤ 4) × (history_length s ≤ 1024))
    × (s.banks ≤ 4 → history_length s ≤ 1024 → setting_refusal m (with_mark 1 s) seeds ≡ none)

-- ---- decisions

-- The large profile accepts the setting, and every call under the rules in force, refused or not and on any state, gives the same reply and
-- leaves the same state under both; so does every list of calls.
pub record Alike (m : Limits) (s : Setting) (seeds : List ℕ) : Type 0 where
  pub accepted : setting_refusal m (with_mark 0 s) seeds ≡ none
  pub set_up : (st : State) → setup m (with_mark 0 s) seeds st ≡ setup m (with_mark 1 s) seeds st
  pub call : (st : State) (c : Call) → step (in_force m) (with_mark 0 s) seeds st c ≡ step (in_force m) (with_mark 1 s) seeds st c
  pub replied : (st : State) (cs : List Call) → replies (in_force m) (with_mark 0 s) seeds st cs ≡ replies (in_force m) (with_mark 1 s) seeds st cs
  pub left : (st : State) (cs : List Call) → after (in_force m) (with_mark 0 s) seeds st cs ≡ after (in_force m) (with_mark 1 s) seeds st cs

-- "A setting accepted under the small profile gets the same decisions under the large one."
abbrev pub SameDecisions : Type 0
SameDecisions = (m : Limits) (s : Setting) (seeds : List ℕ) → setting_refusal m (with_mark 1 s) seeds ≡ none → Alike m s seeds

-- ---- all of it

pub record Theorems : Type 0 where
  pub keeps_limits : KeepsLimits
  pub other_mark : OtherMark
  pub only_above : OnlyAbove
  pub refused_alike : RefusedAlike
  pub small_accepts : SmallAccepts
  pub same_decisions : SameDecisions
