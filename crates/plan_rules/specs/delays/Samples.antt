-- The cases of document 01 about delays, and the chip limits 16,384, 8,192, 4,096 and 2,048 with the timings of BlockHammer's Table 1,
-- at the limits of the calls with 16-bit counters; the small card with four banks; and the chip limits 2,048, 1,024 and 512 at the limits of the
-- calls with 32-bit counters.
use Rattle.std.specs.Prelude.{◌≡◌, [], ◌∷◌, ℕ, Err}
use Rattle.rules.specs.declared.Setting.{Setting}
use Rattle.rules.specs.Answers.{above_limit}
use Rattle.rules.specs.Setting.{setting_of, history_length, row_bound}
use Rattle.rules.specs.Policy.{limits01, limits02}
use Rattle.rules.specs.Samples.{S, table_one}
use Rattle.refused.specs.declared.Refusal.TheVariants.{LongHistory, AboveLimit, AboveProfile}
use Rattle.plan_rules.specs.delays.Delays.{from_to, delay_refusal}
use Rattle.plan_rules.specs.delays.Answer.{delays_of}

-- the same timings for the small card, with so many banks; its delay plays no part
abbrev pub small_one : ℕ → ℕ → ℕ → Setting
small_one n l banks = setting_of (256000000 ∷ 185 ∷ 140 ∷ n ∷ 0 ∷ l ∷ 64 ∷ banks ∷ 8 ∷ 1 ∷ [])

pub record Cases : Type 0 where
  -- "W 256,000,000, tRC 185, N 4,096, tD 31,065: B = 16,384. With tD 31,064: 16,385."
  pub by_table_one : delays_of limits01 (table_one 4096 0 16384) ≡ from_to 31065 143360
  pub one_less : delay_refusal limits01 (table_one 4096 0 16384) 31064 ≡ above_limit
  -- BlockHammer's own N, 8,192, has no delay under L 16,384, and 8,191 needs a history above 4,096 places
  pub published : delays_of limits01 (table_one 8192 0 16384) ≡ Err AboveLimit
  pub below_published : delays_of limits01 (table_one 8191 0 16384) ≡ Err LongHistory
  -- the chip limits 8,192 and 4,096, with a quarter of the limit for N
  pub limit8192 : delays_of limits01 (table_one 2048 0 8192) ≡ from_to 62315 143360
  pub limit4096 : delays_of limits01 (table_one 1024 0 4096) ≡ from_to 124815 143360
  -- 2,048: a quarter needs a history above 4,096 places; 131 is the last N that does not. Below 1,788 there is none.
  pub limit2048 : delays_of limits01 (table_one 512 0 2048) ≡ Err LongHistory
  pub limit2048_last : (delays_of limits01 (table_one 131 0 2048) ≡ from_to 143310 143360) × (delays_of limits01 (table_one 132 0 2048) ≡ Err LongHistory)
  pub limit1788 : (delays_of limits01 (table_one 1 0 1788) ≡ from_to 143337 143360) × (delays_of limits01 (table_one 1 0 1787) ≡ Err LongHistory)
  -- S: "W 40, tRC 1, tFAW 4, N 2, .. L 10"
  pub s : delays_of limits01 S ≡ from_to 6 20
  -- The small card has the delays of the large one with a history of at most 1,024 places, and 16 where these are none.
  pub small16384 : (delays_of limits01 (small_one 4096 16384 4) ≡ from_to 31065 35840) × (delays_of limits01 (small_one 8192 16384 4) ≡ Err AboveLimit)
  pub small8192 : (delays_of limits01 (small_one 512 8192 4) ≡ from_to 35688 35840) × (delays_of limits01 (small_one 2048 8192 4) ≡ Err AboveProfile)
  -- 7,145 is the least L that it can serve: with 7,144 it has no delay even for N 1, and so for no larger N (`Nested`) and no smaller L (`LargerLimit`)
  pub small7145 : (delays_of limits01 (small_one 1 7145 4) ≡ from_to 35840 35840) × (delays_of limits01 (small_one 1 7144 4) ≡ Err AboveProfile)
  -- five banks get 16 where the large card has a delay, and else what that gets
  pub small5 : (delays_of limits01 (small_one 4096 16384 5) ≡ Err AboveProfile) × (delays_of limits01 (small_one 8192 16384 5) ≡ Err AboveLimit)
  -- "Chips with a limit near 1,000 need tens of thousands of history places." A quarter of the limit for N needs 14,284 with 1,024 and 28,568 with
  -- 512, more than 4,096, and has B = L: only the calls with 32-bit counters have a delay.
  pub quarter1024 : (history_length (table_one 256 499815 1024) ≡ 14284) × (row_bound (table_one 256 499815 1024) ≡ 1024)
  pub quarter512 : (history_length (table_one 128 999815 512) ≡ 28568) × (row_bound (table_one 128 999815 512) ≡ 512)
  pub limit1024 : (delays_of limits02 (table_one 256 0 1024) ≡ from_to 499815 1146880) × (delays_of limits01 (table_one 256 0 1024) ≡ Err LongHistory)
  pub limit512 : (delays_of limits02 (table_one 128 0 512) ≡ from_to 999815 1146880) × (delays_of limits01 (table_one 128 0 512) ≡ Err LongHistory)
  -- the last N of the chip limits 2,048, 1,024 and 512 that need no more than 32,768 places; below 226 there is none
  pub wide2048_last : (delays_of limits02 (table_one 912 0 2048) ≡ from_to 1141351 1146880) × (delays_of limits02 (table_one 913 0 2048) ≡ Err LongHistory)
  pub wide1024_last : (delays_of limits02 (table_one 400 0 1024) ≡ from_to 1142197 1146880) × (delays_of limits02 (table_one 401 0 1024) ≡ Err LongHistory)
  pub wide512_last : (delays_of limits02 (table_one 144 0 512) ≡ from_to 1142620 1146880) × (delays_of limits02 (table_one 145 0 512) ≡ Err LongHistory)
  pub wide226 : (delays_of limits02 (table_one 1 0 226) ≡ from_to 1142856 1146880) × (delays_of limits02 (table_one 1 0 225) ≡ Err LongHistory)
