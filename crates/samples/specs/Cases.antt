-- The cases of document 01 marked (p), and the published numbers of BlockHammer: runs under setting S, and the lines that no request has changed.
use Rattle.std.specs.Prelude.{◌≡◌, List, [], ◌∷◌, ◌++◌, map, ℕ, get_or, replicate}
use Rattle.rules.specs.declared.Setting.{Setting}
use Rattle.rules.specs.Answers.{none, above_limit, refusal_number, answer_number, answer_wait}
use Rattle.rules.specs.Setting.{history_length, row_bound, setting_refusal}
use Rattle.rules.specs.State.{State, head_of, fresh, thread_cell}
use Rattle.rules.specs.Hash.{hash, places}
use Rattle.rules.specs.Filter.{counted}
use Rattle.rules.specs.Policy.{Policy, limits01}
use Rattle.rules.specs.Calls.{Call, request, done, index, Reply, refused, answered, finished, shown, setup_refusal, replies, after}
use Rattle.rules.specs.Samples.{house, setting_s, S, table_one}

-- buffers with a history of 8 places and so many counters and thread counters, with contents that set-up clears
abbrev pub lent : ℕ → ℕ → State
lent counters threads =
    record {
      head = head_of (replicate 22 5);
      counters = replicate counters 7;
      ticks = replicate 8 3;
      rows = replicate 8 1;
      threads = replicate threads 9;
    }

-- those of S
unfoldable pub before : State
before = lent 2048 3

-- what document 01 names of a reply: the return code, and the answer's number with the wait tick, or c, D and the quota
abbrev pub told : Reply → List ℕ
told (refused r) = refusal_number r ∷ []
told (answered a) = 0 ∷ answer_number a ∷ answer_wait a ∷ []
told finished = 0 ∷ []
told (shown c scale quota) = 0 ∷ c ∷ scale ∷ quota ∷ []

-- what is told by a run after set-up, under a setting and a policy
abbrev pub run_of : Setting → State → Policy → List Call → List (List ℕ)
run_of s st p cs = map told (replies p s house (fresh s st) cs)

-- the same under S, and a request and a done of its one bank and thread; the row is 5
abbrev pub run : Policy → List Call → List (List ℕ)
run p cs = run_of S before p cs

abbrev pub ask : ℕ → Call
ask t = request t 0 0 5

abbrev pub over : ℕ → Call
over t = done t 0 0

-- what is told of an opened request, of one that the row rule holds until u, and of a done
abbrev pub opened : List ℕ
opened = 0 ∷ 0 ∷ 0 ∷ []

abbrev pub wait_row : ℕ → List ℕ
wait_row u = 0 ∷ 3 ∷ u ∷ []

abbrev pub finish : List ℕ
finish = 0 ∷ []

-- the cases without a run, at document 01's limits
pub record Numbers : Type 0 where
  -- "S: B = 10, H = 8. L 9: refusal 5."
  pub bound : row_bound S ≡ 10
  pub history : history_length S ≡ 8
  pub limit9 : setting_refusal limits01 (setting_s 9 4) house ≡ above_limit
  -- S is accepted, and set-up on these buffers is not refused
  pub accepted : setting_refusal limits01 S house ≡ none
  pub setup : setup_refusal limits01 S house before ≡ none
  -- "W 256,000,000, tRC 185, N 4,096, tD 31,065: B = 16,384. With tD 31,064: 16,385. With N 8,192, tD 31,065: 24,528."
  pub bound4096 : row_bound (table_one 4096 31065 16384) ≡ 16384
  pub bound31064 : row_bound (table_one 4096 31064 16384) ≡ 16385
  pub bound8192 : row_bound (table_one 8192 31065 16384) ≡ 24528
  -- "Row 3: functions 0, 1 give 177, 312. Row 0 gives 0 four times; its opening adds 1."
  pub row3 : (hash house 0 3 ≡ 177) × (hash house 1 3 ≡ 312)
  pub row0 : places house 0 ≡ 0 ∷ 0 ∷ 0 ∷ 0 ∷ []
  pub row0_adds : counted 2 0 (λ f. places house 0) (replicate 2048 0) ≡ (1 ∷ replicate 1023 0) ++ (1 ∷ replicate 1023 0)
  -- BlockHammer's own Table 1, N 8,192 with L 16,384, is refused with 5; half its N is accepted with B equal to L.
  pub published : setting_refusal limits01 (table_one 8192 31065 16384) house ≡ above_limit
  pub half : setting_refusal limits01 (table_one 4096 31065 16384) house ≡ none

-- the runs that no request has changed, by the rules of a policy
pub record Cases (p : Policy) : Type 0 where
  -- "S, each done reported before the next: 18, 19, 37 opened; at 38 wait row until 40, the epoch turn, not 43."
  pub ticks18_38 : run p (ask 18 ∷ over 18 ∷ ask 19 ∷ over 19 ∷ ask 37 ∷ over 37 ∷ ask 38 ∷ []) ≡ opened ∷ finish ∷ opened ∷ finish ∷ opened ∷ finish ∷ wait_row 40 ∷ []
  -- "S, 18, 19 opened; at 21 wait row until 25."
  pub ticks18_21 : run p (ask 18 ∷ ask 19 ∷ ask 21 ∷ []) ≡ opened ∷ opened ∷ wait_row 25 ∷ []
  -- "Tick 5 after 6: refusal 9. Done on a fresh state: 10."
  pub tick5 : run p (ask 6 ∷ ask 5 ∷ []) ≡ opened ∷ (9 ∷ []) ∷ []
  pub fresh_done : run p (over 0 ∷ []) ≡ (10 ∷ []) ∷ []

-- the requests of the line with tick 8, and the index read before the last of them
abbrev pub to_tick7 : List Call
to_tick7 = ask 0 ∷ ask 1 ∷ ask 2 ∷ ask 7 ∷ []

abbrev pub to_tick8 : List Call
to_tick8 = to_tick7 ++ (index 7 0 0 ∷ ask 8 ∷ [])

-- how many are in flight after tick 7
abbrev pub flying : Policy → ℕ
flying p = get_or (after p S house (fresh S before) to_tick7).threads (thread_cell S 0 0 2) 0
