-- What is proved about logs when the rules change: the statements, as types. Their proofs are in proofs/.
use Rattle.std.specs.Prelude.{◌≡◌, ◌≢◌, ◌⊎◌, List, [], ◌∷◌, ◌++◌, Bool, true, ◌&&◌, cond, ℕ, ◌+◌, ◌-◌, ◌/◌, ◌≤◌, ◌<◌, ltb, eqb, length}
use Rattle.rules.specs.declared.Setting.{Setting}
use Rattle.rules.specs.declared.Limits.{Limits}
use Rattle.rules.specs.Answers.{Refusal, none, out_of_range, short_window, bad_delay, long_history}
use Rattle.rules.specs.Setting.{history_length, setting_refusal}
use Rattle.rules.specs.Quota.{quota_down, quota_even, in_flight_here, in_flight_total}
use Rattle.rules.specs.Policy.{Policy, limits01, limits02, document01, narrow}
use Rattle.rules.specs.Calls.{Reply, refused}
use Rattle.profiles.specs.Former.{refusal01}
use Rattle.log_format.specs.declared.Entry.{Entry}
use Rattle.log_format.specs.Bytes.{little, zeros, block_at}
use Rattle.log_format.specs.Refusals.{model, bad_contents, sound}
use Rattle.log_format.specs.Contents.{count_in, mark_in, setting_in}
use Rattle.log_format.specs.Blocks.{checked, start_laid_out, block_refusal}
use Rattle.log_format.specs.Verdict.{Ending, agrees, differs, Verdict, refused_after, judged, verdict}
use Rattle.log_format.specs.Claims.{setting_of_log, seeds_of_log, later_of, records_of, rules_say, rules_open, Decision, Decided, WellFormed}

-- ---- where a log differs

-- "`differs` with block number (from 0) and record place in it (from 1)", for record i, from 0, of these blocks; b is the number of the first
-- of them. Past the last record, where there is none, the place goes on counting in the block after the last.
abbrev pub differs_at : ℕ → List (List ℕ) → ℕ → Ending
differs_at b [] i = differs b (i + 1)
differs_at b (s ∷ ss) i = cond (ltb i (count_in s)) (differs b (i + 1)) (differs_at (b + 1) ss (i - count_in s))

-- what the rules of a policy say of records of this log, and how many they open
abbrev pub said_of : Policy → List ℕ → List Entry → List Reply
said_of p bytes es = rules_say p (setting_of_log bytes) (seeds_of_log bytes) es

abbrev pub opened_of : Policy → List ℕ → List Entry → ℕ
opened_of p bytes es = rules_open p (setting_of_log bytes) (seeds_of_log bytes) es

-- the verdict where these records agree and the next one, e, differs: "the differing record is counted in the first line, and in the second if
-- the rules open it"
abbrev pub differs_after : Policy → List ℕ → List Entry → Entry → Verdict
differs_after p bytes before e = judged (length before + 1) (opened_of p bytes (before ++ (e ∷ []))) (differs_at 1 (later_of bytes) (length before))

-- A well-formed log under an accepted setting differs at its first record that is not the rules' decision, if the rules do not refuse it.
abbrev pub DiffersAtFirst : Policy → Type 0
DiffersAtFirst p =
    (bytes : List ℕ) → WellFormed bytes → setting_refusal p.limits (setting_of_log bytes) (seeds_of_log bytes) ≡ none
    → (before rest : List Entry) (e : Entry) → records_of bytes ≡ before ++ (e ∷ rest)
    → Decided before (said_of p bytes before)
    → (r : Reply) → said_of p bytes (before ++ (e ∷ [])) ≡ said_of p bytes before ++ (r ∷ [])
    → ((n : Refusal) → r ≢ refused n) → (Decision e r → ⊥)
    → verdict p bytes ≡ differs_after p bytes before e

-- ---- two policies

-- After these records of the log, e is the first on which the two policies decide differently.
pub record FirstDifferent (p q : Policy) (bytes : List ℕ) (before : List Entry) (e : Entry) : Type 0 where
  pub alike : said_of q bytes before ≡ said_of p bytes before
  pub apart : said_of q bytes (before ++ (e ∷ [])) ≢ said_of p bytes (before ++ (e ∷ []))

-- What becomes of a log that agrees under p, with r records and o opened, under q: "A log that agreed under the old .. differs at the first
-- entry that the two .. decide differently, and agrees if there is none." Records and openings are counted as q decides, that record included.
pub record Becomes (p q : Policy) (bytes : List ℕ) (r o : ℕ) : Type 0 where
  pub differing : (before rest : List Entry) (e : Entry) → records_of bytes ≡ before ++ (e ∷ rest) → FirstDifferent p q bytes before e
      → verdict q bytes ≡ differs_after q bytes before e
  pub agreeing : ((before rest : List Entry) (e : Entry) → records_of bytes ≡ before ++ (e ∷ rest) → FirstDifferent p q bytes before e → ⊥)
      → verdict q bytes ≡ judged r o agrees
  -- one of the two is the case
  pub either : (verdict q bytes ≡ judged r o agrees)
      ⊎ ((before : List Entry) × (e : Entry) × (rest : List Entry) × (records_of bytes ≡ before ++ (e ∷ rest)) × FirstDifferent p q bytes before e)

-- of every log that agrees under p
abbrev pub LogsBecome : Policy → Policy → Type 0
LogsBecome p q = (bytes : List ℕ) (r o : ℕ) → verdict p bytes ≡ judged r o agrees → Becomes p q bytes r o

-- for any two policies with the same limits
abbrev pub AfterChange : Policy → Policy → Type 0
AfterChange p q = p.limits ≡ q.limits → LogsBecome p q

-- ---- the requests

-- the policy of these limits, with a rule of the quota and a rule of what in flight means
abbrev pub policy_of : Limits → (Setting → ℕ → ℕ) → (Setting → List ℕ → ℕ → ℕ → ℕ) → Policy
policy_of m quota flying = record { limits = m; quota = quota; in_flight = flying }

-- Request d: "A log that agreed under the old rounding differs at the first entry that the two roundings decide differently, and agrees if there is none."
abbrev pub AfterRounding : Type 0
AfterRounding = (m : Limits) (flying : Setting → List ℕ → ℕ → ℕ → ℕ) → LogsBecome (policy_of m quota_down flying) (policy_of m quota_even flying)

-- Request b: "Logs are judged by the new total.": a log that agreed by the named bank's own count differs at the first entry that count and total decide
-- differently, and agrees if there is none. With `quota_even` and document 01's limits these are the rules before request b and those in force.
abbrev pub AfterTotal : Type 0
AfterTotal = (m : Limits) (quota : Setting → ℕ → ℕ) → LogsBecome (policy_of m quota in_flight_here) (policy_of m quota in_flight_total)

-- both, of logs of document 01's rules and the rules in force
abbrev pub SinceDocument01 : Type 0
SinceDocument01 = LogsBecome document01 narrow

-- ---- request g: logs and the profile mark

-- block 0 as document 01 has it: "count 0, the nine numbers of the setting .., 64 seeds .., then zeros"
abbrev pub start_laid_out01 : List ℕ → Bool
start_laid_out01 s = eqb (count_in s) 0 && zeros s 172 336

-- the nine numbers of its setting, of a large card
abbrev pub setting_in01 : List ℕ → Setting
setting_in01 s =
    record {
      w = little s 8 4;
      trc = little s 12 4;
      tfaw = little s 16 4;
      n = little s 20 4;
      td = little s 24 4;
      l = little s 28 4;
      q = little s 32 4;
      banks = little s 36 4;
      threads = little s 40 4;
      profile = 0;
    }

-- Logs written before are logs of the large profile: where the mark's byte is 0, the test of block 0's layout, the setting that is read and the
-- refusals about it are document 01's.
pub record WrittenBefore : Type 0 where
  pub layout : (s : List ℕ) → mark_in s ≡ 0 → start_laid_out s ≡ start_laid_out01 s
  pub setting : (s : List ℕ) → mark_in s ≡ 0 → setting_in s ≡ setting_in01 s
  pub refusals : (m : Limits) (s seeds : List ℕ) → mark_in s ≡ 0 → setting_refusal m (setting_in s) seeds ≡ refusal01 m (setting_in s) seeds

-- "Any other mark is .. 13 in a log": of a log whose block 0 has right sums, whatever its setting is.
abbrev pub OtherMarkInLog : Policy → Type 0
OtherMarkInLog p =
    (bytes : List ℕ) → 1 ≤ length bytes / 512 → checked (block_at bytes 0) ≡ true → 2 ≤ mark_in (block_at bytes 0)
    → verdict p bytes ≡ refused_after bad_contents 0

-- A sound block 0 whose setting is refused, with 16 too, ends the log with that refusal and no whole block before it.
abbrev pub SettingRefused : Policy → Type 0
SettingRefused p =
    (bytes : List ℕ) → 1 ≤ length bytes / 512 → block_refusal (block_at bytes 0) 0 0 ≡ sound
    → setting_refusal p.limits (setting_of_log bytes) (seeds_of_log bytes) ≢ none
    → verdict p bytes ≡ refused_after (model (setting_refusal p.limits (setting_of_log bytes) (seeds_of_log bytes))) 0

-- ---- request a: logs and the limits

-- "The checker program keeps the old limits on history and threshold, and prints 4 or 1 above them": `verdict narrow` is the checker's. An N above
-- 32,768 is 1, whatever else is wrong with the setting; an H above 4,096 is 4, where the new width finds none of 1, 2 and 3. So every setting that
-- only the new width accepts is 1 or 4.
pub record OldLimits (bytes : List ℕ) : Type 0 where
  pub threshold : 32768 < (setting_of_log bytes).n → verdict narrow bytes ≡ refused_after (model out_of_range) 0
  pub history : (setting_of_log bytes).n ≤ 32768 → 4096 < history_length (setting_of_log bytes)
      → let r = setting_refusal limits02 (setting_of_log bytes) (seeds_of_log bytes) in
      r ≢ out_of_range → r ≢ short_window → r ≢ bad_delay → verdict narrow bytes ≡ refused_after (model long_history) 0
  pub only_new : setting_refusal limits02 (setting_of_log bytes) (seeds_of_log bytes) ≡ none
      → setting_refusal limits01 (setting_of_log bytes) (seeds_of_log bytes) ≢ none
      → (verdict narrow bytes ≡ refused_after (model out_of_range) 0) ⊎ (verdict narrow bytes ≡ refused_after (model long_history) 0)

-- of every log with a sound block 0
abbrev pub OldLimitsOnLogs : Type 0
OldLimitsOnLogs = (bytes : List ℕ) → 1 ≤ length bytes / 512 → block_refusal (block_at bytes 0) 0 0 ≡ sound → OldLimits bytes

-- ---- all of it

pub record Theorems : Type 0 where
  pub differs_at_first : (p : Policy) → DiffersAtFirst p
  pub after_change : (p q : Policy) → AfterChange p q
  pub after_rounding : AfterRounding
  pub after_total : AfterTotal
  pub since_document01 : SinceDocument01
  pub written_before : WrittenBefore
  pub other_mark_in_log : (p : Policy) → OtherMarkInLog p
  pub setting_refused : (p : Policy) → SettingRefused p
  pub old_limits_on_logs : OldLimitsOnLogs
