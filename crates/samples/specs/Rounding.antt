-- The cases of document 02, d: quotas at an exact half, and lists of records before and after the change of rounding.
use Rattle.std.specs.Prelude.{◌≡◌, List, [], ◌∷◌, ◌++◌, map}
use Rattle.rules.specs.declared.Setting.{Setting}
use Rattle.rules.specs.Answers.{none}
use Rattle.rules.specs.Setting.{index_scale, setting_refusal}
use Rattle.rules.specs.State.{State}
use Rattle.rules.specs.Quota.{quota_down, quota_even}
use Rattle.rules.specs.Policy.{Policy, limits01, document01, narrow}
use Rattle.rules.specs.Samples.{house, setting_s, S}
use Rattle.log_format.specs.declared.Entry.{Entry}
use Rattle.log_format.specs.Verdict.{agrees, differs, Verdict, judged, Running, set_up, judge_records, verdict_of}
use Rattle.samples.specs.log.Samples.{asks}
use Rattle.samples.specs.Cases.{before, run, opened, wait_row, to_tick8, flying}

-- what is judged of records as those of block 1, after set-up with a setting, under a policy
abbrev pub judged_of : Setting → State → Policy → List Entry → Verdict
judged_of s st p es = verdict_of (judge_records p (set_up s house st) es) (λ (y : Running). judged y.progress.records y.progress.opened agrees)

abbrev pub judged_records : Policy → List Entry → Verdict
judged_records p es = judged_of S before p es

-- the requests at ticks 0, 1, 2 and 7 as both roundings decide them, and what the old one says at tick 8
abbrev pub four : List Entry
four = asks 0 0 0 ∷ asks 1 0 0 ∷ asks 2 3 7 ∷ asks 7 0 0 ∷ []

abbrev pub five : List Entry
five = four ++ (asks 8 4 0 ∷ [])

pub record Rounded : Type 0 where
  -- "In setting S a counter of 1 gives 4 × 7/8 = 3.5, so the quota is 4 and the request at tick 8 becomes a row wait until 13."
  pub tick8 : run narrow to_tick8 ≡ opened ∷ opened ∷ wait_row 7 ∷ opened ∷ (0 ∷ 1 ∷ 8 ∷ 4 ∷ []) ∷ wait_row 13 ∷ []
  pub three : flying narrow ≡ 3
  -- Q 5 and D 10 are accepted, and 4.5 gives 4
  pub half4 : (setting_refusal limits01 (setting_s 12 5) house ≡ none) × (index_scale (setting_s 12 5) ≡ 10) × (quota_even (setting_s 12 5) 1 ≡ 4)
  -- Q 1 and D 8 are accepted, and 0.5 gives 0: the quota is 0 before c reaches D
  pub half0 : (setting_refusal limits01 (setting_s 10 1) house ≡ none) × (index_scale (setting_s 10 1) ≡ 8) × (quota_even (setting_s 10 1) 4 ≡ 0)
  -- Q 1 and D 8, the counter from 0 to 8
  pub even1 : map (quota_even (setting_s 10 1)) (0 ∷ 1 ∷ 2 ∷ 3 ∷ 4 ∷ 5 ∷ 6 ∷ 7 ∷ 8 ∷ []) ≡ 1 ∷ 1 ∷ 1 ∷ 1 ∷ 0 ∷ 0 ∷ 0 ∷ 0 ∷ 0 ∷ []
  -- S, the counter from 0 to 8: 4, 3.5, 3, 2.5, 2, 1.5, 1, 0.5, 0
  pub even_s : map (quota_even S) (0 ∷ 1 ∷ 2 ∷ 3 ∷ 4 ∷ 5 ∷ 6 ∷ 7 ∷ 8 ∷ []) ≡ 4 ∷ 4 ∷ 3 ∷ 2 ∷ 2 ∷ 2 ∷ 1 ∷ 0 ∷ 0 ∷ []
  -- the same rounded down
  pub down_s : map (quota_down S) (0 ∷ 1 ∷ 2 ∷ 3 ∷ 4 ∷ 5 ∷ 6 ∷ 7 ∷ 8 ∷ []) ≡ 4 ∷ 3 ∷ 3 ∷ 2 ∷ 2 ∷ 1 ∷ 1 ∷ 0 ∷ 0 ∷ []
  -- Q 7 and D 10, the counter from 1 to 5: 6.3, 5.6, 4.9, 4.2, 3.5
  pub even7 : map (quota_even (setting_s 12 7)) (1 ∷ 2 ∷ 3 ∷ 4 ∷ 5 ∷ []) ≡ 6 ∷ 6 ∷ 5 ∷ 4 ∷ 4 ∷ []
  -- records that agreed under the old rounding and differ now, at the fifth
  pub old_five : judged_records document01 five ≡ judged 5 3 agrees
  pub new_five : judged_records narrow five ≡ judged 5 3 (differs 1 5)
  -- records that agree under both
  pub old_four : judged_records document01 four ≡ judged 4 3 agrees
  pub new_four : judged_records narrow four ≡ judged 4 3 agrees
