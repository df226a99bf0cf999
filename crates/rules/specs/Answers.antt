-- The answers and refusals, with the numbers that document 01 gives them.
use Rattle.std.specs.Prelude.{ℕ, Bool, true, false, cond, eqb}
use Rattle.rules.specs.declared.Cause.{Cause}
use Rattle.rules.specs.declared.Cause.TheVariants.{Bank, Rank, Row}
use Rattle.rules.specs.declared.Answer.{Answer}
use Rattle.rules.specs.declared.Answer.TheVariants.{Opened, Wait, Quota}

-- "answer (1: 0 opened or done, 1 bank, 2 rank, 3 row, 4 quota)"
abbrev pub cause_number : Cause → ℕ
cause_number Bank = 1
cause_number Rank = 2
cause_number Row = 3

abbrev pub answer_number : Answer → ℕ
answer_number (Opened left) = 0
answer_number (Wait c u) = cause_number c
answer_number Quota = 4

-- "The wait tick of the rules is 0 for answers 0 and 4."
abbrev pub answer_wait : Answer → ℕ
answer_wait (Opened left) = 0
answer_wait (Wait c u) = u
answer_wait Quota = 0

-- Document 02, e: "an opened answer carries N minus the estimate after the opening, never below 0"; any other carries 0.
abbrev pub answer_left : Answer → ℕ
answer_left (Opened left) = left
answer_left (Wait c u) = 0
answer_left Quota = 0

-- "Refusals, by who can cause them"; none stands for a call that is answered.
pub data Refusal : Type 0 where
  none out_of_range short_window bad_delay long_history above_limit above_profile short_buffer bad_memory outside_setting bad_tick none_in_flight : Refusal

abbrev pub refusal_number : Refusal → ℕ
refusal_number none = 0
-- "1 field out of range, or other than 64 seeds."
refusal_number out_of_range = 1
-- "2 W − 1 < 2 × N × tRC."
refusal_number short_window = 2
-- "3 tD below tRC or above E."
refusal_number bad_delay = 3
-- "4 H above 4,096."
refusal_number long_history = 4
-- "5 B > L."
refusal_number above_limit = 5
-- "16 a setting above the small profile, after 5." (document 02, g)
refusal_number above_profile = 16
-- "6 a buffer too short."
refusal_number short_buffer = 6
-- "7 a history place of H or more, a kept tick after the last tick, or stored history ticks that rise"
refusal_number bad_memory = 7
-- "8 bank or thread not in the setting."
refusal_number outside_setting = 8
-- "9 tick before the last one, or 2^62 or more."
refusal_number bad_tick = 9
-- "10 done with none in flight."; document 02, b: "exactly if that bank has none of the thread's requests"
refusal_number none_in_flight = 10

-- "Checked in this order, as far as the call has them; the first is given."
abbrev pub refuse : Bool → Refusal → Refusal → Refusal
refuse true r rest = r
refuse false r rest = rest

-- the earlier refusal, or the later one where there is none
abbrev pub or_else : Refusal → Refusal → Refusal
or_else r rest = cond (eqb (refusal_number r) 0) rest r
