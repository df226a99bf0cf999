-- The cases of document 02, b: a thread with requests in two banks, and lists of records before and after the change of what in flight means.
use Rattle.std.specs.Prelude.{◌≡◌, List, [], ◌∷◌, ◌++◌, ℕ}
use Rattle.rules.specs.declared.Setting.{Setting}
use Rattle.rules.specs.Answers.{none}
use Rattle.rules.specs.Setting.{setting_of}
use Rattle.rules.specs.State.{State, fresh}
use Rattle.rules.specs.Quota.{in_flight_here, in_flight_total}
use Rattle.rules.specs.Policy.{Policy, limits01, document01, narrow}
use Rattle.rules.specs.Calls.{Call, request, done, index, setup_refusal, after}
use Rattle.rules.specs.Samples.{house}
use Rattle.log_format.specs.declared.Entry.{Entry}
use Rattle.log_format.specs.Verdict.{agrees, differs, judged}
use Rattle.samples.specs.Cases.{lent, run_of, opened, finish}
use Rattle.samples.specs.Rounding.{judged_of}

-- S with 2 banks, 2 threads and Q 1
unfoldable pub S2 : Setting
S2 = setting_of (40 ∷ 1 ∷ 4 ∷ 2 ∷ 6 ∷ 10 ∷ 1 ∷ 2 ∷ 2 ∷ 0 ∷ [])

-- the buffers of S2
unfoldable pub before2 : State
before2 = lent 4096 12

-- what is told by a run under S2 and a policy, and the thread counters that it leaves
abbrev pub run2 : Policy → List Call → List (List ℕ)
run2 p cs = run_of S2 before2 p cs

abbrev pub left2 : Policy → List Call → List ℕ
left2 p cs = (after p S2 house (fresh S2 before2) cs).threads

-- a request of row 5 of a bank and a done, of thread 0
abbrev pub asks_bank : ℕ → ℕ → Call
asks_bank t bank = request t bank 0 5

abbrev pub ends_bank : ℕ → ℕ → Call
ends_bank t bank = done t bank 0

-- what is told of a request that the quota holds
abbrev pub over_quota : List ℕ
over_quota = 0 ∷ 4 ∷ 0 ∷ []

-- Row 5 of bank 0, each done reported before the next, until it was opened 4 times while blacklisted: the counter in test is then 4.
abbrev pub hammered : List Call
hammered =
    asks_bank 0 0 ∷ ends_bank 0 0 ∷ asks_bank 1 0 ∷ ends_bank 1 0 ∷ asks_bank 7 0 ∷ ends_bank 7 0 ∷ asks_bank 13 0 ∷ ends_bank 13 0 ∷ asks_bank 19 0 ∷ ends_bank 19 0
    ∷ asks_bank 25 0 ∷ ends_bank 25 0 ∷ []

-- two records of thread 0, one in each bank, with the answer to the second
abbrev pub two : ℕ → List Entry
two answer =
    record { tick = 0; wait = 0; row = 5; bank = 0; thread = 0; kind = 0; answer = 0 }
    ∷ record { tick = 1; wait = 0; row = 5; bank = 1; thread = 0; kind = 0; answer = answer } ∷ []

pub record Totals : Type 0 where
  pub accepted : setup_refusal limits01 S2 house before2 ≡ none
  -- bank 0 is opened, and bank 1 is then held by the quota; document 01 opened it
  pub two_banks : run2 narrow (asks_bank 0 0 ∷ asks_bank 1 1 ∷ []) ≡ opened ∷ over_quota ∷ []
  pub two_before : run2 document01 (asks_bank 0 0 ∷ asks_bank 1 1 ∷ []) ≡ opened ∷ opened ∷ []
  -- "Done for a bank lowers the total": a done of the other bank makes room
  pub done_lowers : run2 narrow (asks_bank 0 0 ∷ ends_bank 0 0 ∷ asks_bank 1 1 ∷ []) ≡ opened ∷ finish ∷ opened ∷ []
  -- "refused with 10 exactly if that bank has none of the thread's requests": none in bank 1, and 1 in total
  pub done_elsewhere : run2 narrow (asks_bank 0 0 ∷ ends_bank 1 1 ∷ []) ≡ opened ∷ (10 ∷ []) ∷ []
  pub none_here : in_flight_here S2 (left2 narrow (asks_bank 0 0 ∷ ends_bank 1 1 ∷ [])) 1 0 ≡ 0
  pub one_in_all : in_flight_total S2 (left2 narrow (asks_bank 0 0 ∷ ends_bank 1 1 ∷ [])) 1 0 ≡ 1
  -- another thread's requests do not count
  pub other_thread : run2 narrow (asks_bank 0 0 ∷ request 1 1 1 5 ∷ []) ≡ opened ∷ opened ∷ []
  -- "the quota itself still comes from the named bank's counter": 0 in bank 0, where the counter is 4 of 8, and 1 in bank 1
  pub named_bank : run2 narrow (hammered ++ (index 26 0 0 ∷ asks_bank 26 0 ∷ index 26 1 0 ∷ asks_bank 26 1 ∷ []))
      ≡ opened ∷ finish ∷ opened ∷ finish ∷ opened ∷ finish ∷ opened ∷ finish ∷ opened ∷ finish ∷ opened ∷ finish
      ∷ (0 ∷ 4 ∷ 8 ∷ 0 ∷ []) ∷ over_quota ∷ (0 ∷ 0 ∷ 8 ∷ 1 ∷ []) ∷ opened ∷ []
  -- records that agreed by the bank's own count and differ now, at the second, and records that agree now
  pub old_two : judged_of S2 before2 document01 (two 0) ≡ judged 2 2 agrees
  pub new_two : judged_of S2 before2 narrow (two 0) ≡ judged 2 1 (differs 1 2)
  pub held_two : judged_of S2 before2 narrow (two 4) ≡ judged 2 1 agrees
