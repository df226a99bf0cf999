-- The cases of document 02, g: settings with each mark, near the limits of the small card.
use Rattle.std.specs.Prelude.{◌≡◌, List, [], ◌∷◌, map, ℕ}
use Rattle.rules.specs.declared.Setting.{Setting}
use Rattle.rules.specs.Answers.{none, out_of_range, long_history, above_limit, above_profile, short_buffer, refusal_number}
use Rattle.rules.specs.Setting.{setting_of, history_length, setting_refusal}
use Rattle.rules.specs.Policy.{limits01, narrow}
use Rattle.rules.specs.Calls.{index, setup_refusal, replies}
use Rattle.rules.specs.Samples.{house}
use Rattle.samples.specs.Cases.{before, told, run_of, run, ask, over, to_tick8}

-- S with another L, so many banks and this mark
abbrev pub marked_s : ℕ → ℕ → ℕ → Setting
marked_s l banks mark = setting_of (40 ∷ 1 ∷ 4 ∷ 2 ∷ 6 ∷ l ∷ 4 ∷ banks ∷ 1 ∷ mark ∷ [])

-- BlockHammer's Table 1 with N 4,096 and L 16,384, four banks, this delay and this mark
abbrev pub four_banks : ℕ → ℕ → Setting
four_banks td mark = setting_of (256000000 ∷ 185 ∷ 140 ∷ 4096 ∷ td ∷ 16384 ∷ 64 ∷ 4 ∷ 8 ∷ mark ∷ [])

-- what set-up, a request, a done and an index reading give back, in the memory of S
abbrev pub codes : Setting → List (List ℕ)
codes s = (refusal_number (setup_refusal limits01 s house before) ∷ []) ∷ map told (replies narrow s house before (ask 0 ∷ over 0 ∷ index 0 0 0 ∷ []))

-- a number in each of the four
abbrev pub each : ℕ → List (List ℕ)
each n = (n ∷ []) ∷ (n ∷ []) ∷ (n ∷ []) ∷ (n ∷ []) ∷ []

pub record Profiles : Type 0 where
  -- S with mark 1 is accepted, also with four banks, and answers as S
  pub small : setting_refusal limits01 (marked_s 10 1 1) house ≡ none
  pub four : setting_refusal limits01 (marked_s 10 4 1) house ≡ none
  pub same : run_of (marked_s 10 1 1) before narrow to_tick8 ≡ run narrow to_tick8
  -- "Any other mark is 1 in a call"
  pub mark2 : codes (marked_s 10 1 2) ≡ each 1
  -- five banks with mark 1: 16 in every call, before the 6 that this memory would get
  pub five : codes (marked_s 10 5 1) ≡ each 16
  pub five6 : setup_refusal limits01 (marked_s 10 5 0) house before ≡ short_buffer
  -- 1,024 places are accepted, 1,028 get 16 and are accepted with mark 0
  pub places1024 : (history_length (four_banks 35840 1) ≡ 1024) × (setting_refusal limits01 (four_banks 35840 1) house ≡ none)
  pub places1028 : (history_length (four_banks 35841 1) ≡ 1028) × (setting_refusal limits01 (four_banks 35841 1) house ≡ above_profile)
  pub large1028 : setting_refusal limits01 (four_banks 35841 0) house ≡ none
  -- both B > L and five banks: 5; H above 4,096 with mark 1: 4; mark 2 and B > L: 1
  pub limit5 : setting_refusal limits01 (marked_s 9 5 1) house ≡ above_limit
  pub long4 : setting_refusal limits01 (four_banks 143361 1) house ≡ long_history
  pub mark2_first : setting_refusal limits01 (marked_s 9 1 2) house ≡ out_of_range
