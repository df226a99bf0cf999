-- The cases, by computation of what the rules say.
use mathlib.Core.Path.{◌≡◌, refl, ap, ◌∙◌}
use mathlib.Core.List.{List, [], ◌∷◌}
use mathlib.Core.Bool.{Bool, true, false}
use Prim.Native.Nat.{ℕ, zero, suc, ◌-◌, ◌*◌, ◌^◌, ◌≤◌, ◌<◌}
use native.Mathlib.Omega.{arith}
use lib.ListN.{length, replicate}
use Rattle.head.specs.Head.{moved_head, next_place, activated_head}
use Rattle.rules.specs.Cells.{All}
use Rattle.rules.specs.Setting.{setting_of, history_length, row_bound, fields_in_range, seeds_in_range, setting_refusal}
use Rattle.rules.specs.State.{too_short, fresh_head, fresh}
use Rattle.rules.specs.Clock.{turned_counters, turned_threads, turned}
use Rattle.rules.specs.Hash.{hash, places}
use Rattle.rules.specs.Filter.{estimate, raised, named, counted}
use Rattle.rules.specs.History.{back, never_rises, memory_ok, row_free}
use Rattle.rules.specs.Quota.{half_even, quota_even, in_flight_total}
use Rattle.rules.specs.Decision.{passes_at, wait_tick, decide, activated_threads, activated}
use Rattle.rules.specs.Calls.{setup_refusal, call_refusal, done_refusal, unless_refused, requested, reported, step}
use Rattle.rules.specs.Policy.{narrow}
use Rattle.rules.specs.Samples.{house}
use Rattle.log_format.specs.declared.Entry.{Entry}
use Rattle.log_format.specs.Verdict.{claims, memory}
use Rattle.log_format.specs.Claims.{Writable}
use Rattle.samples.specs.log.Samples.{log_s}
use Rattle.cut_rules.specs.selections.Selections.{chosen, tried, pass, cut_down}
use Rattle.cut_rules.specs.Cut.{blocks_refusal, log_refusal, keeps, cut_of, code_of, out_of}
use Rattle.samples.specs.cut.Samples.{asks, ends, three, Cases}
use Rattle.samples.proofs.cut.Written.{differs_s, pass_s, many_s, same_s, keeps_s}

writable : (tick answer : ℕ) → tick < 2 ^ 64 → answer ≤ 4 → Writable (asks tick answer)
writable tick answer t a = record { tick = t; wait = omega arith; row = omega arith; bank = omega arith; thread = omega arith; kind = omega arith; answer = a }

ended : (tick : ℕ) → tick < 2 ^ 64 → Writable (ends tick)
ended tick t = record { tick = t; wait = omega arith; row = omega arith; bank = omega arith; thread = omega arith; kind = omega arith; answer = omega arith }

repeated : (n : ℕ) → All Writable (replicate n (asks 3 0))
repeated zero = tt
repeated (suc n) = (writable 3 0 (omega arith) (omega arith), repeated n)

w3 : Writable (asks 3 0)
w3 = writable 3 0 (omega arith) (omega arith)

w8 : Writable (ends 8)
w8 = ended 8 (omega arith)

w16 : Writable (asks 16 4)
w16 = writable 16 4 (omega arith) (omega arith)

records : List Entry
records = asks 3 0 ∷ ends 8 ∷ asks 16 4 ∷ []

-- ---- by the rules' replies

record Said : Type 0 where
  all : differs_s (asks 3 0 ∷ ends 8 ∷ asks 16 4 ∷ []) ≡ true
  without0 : differs_s (ends 8 ∷ asks 16 4 ∷ []) ≡ false
  without1 : differs_s (asks 3 0 ∷ asks 16 4 ∷ []) ≡ true
  without2 : differs_s (asks 3 0 ∷ ends 8 ∷ []) ≡ false
  first : differs_s (asks 3 0 ∷ []) ≡ false
  last : differs_s (asks 16 4 ∷ []) ≡ true
  none : differs_s [] ≡ false

said : Said
unfolding setting_of house history_length row_bound fields_in_range seeds_in_range setting_refusal too_short fresh_head fresh turned_counters turned_threads moved_head turned hash places estimate raised named counted next_place back never_rises memory_ok row_free half_even quota_even in_flight_total passes_at wait_tick decide activated_head activated_threads activated setup_refusal call_refusal done_refusal unless_refused requested reported step claims memory
said = record { all = refl; without0 = refl; without1 = refl; without2 = refl; first = refl; last = refl; none = refl }

-- ---- the passes

differs : List Bool → Bool
differs sel = differs_s (chosen sel records)

first_pass : pass differs (true ∷ true ∷ true ∷ []) ≡ true ∷ false ∷ true ∷ []
unfolding records differs tried pass
first_pass = rw (said.without0, said.without1, said.first)

second_pass : pass differs (true ∷ false ∷ true ∷ []) ≡ false ∷ false ∷ true ∷ []
unfolding records differs tried pass
second_pass = rw (said.last, said.none)

third_pass : pass differs (false ∷ false ∷ true ∷ []) ≡ false ∷ false ∷ true ∷ []
unfolding records differs tried pass
third_pass = rw said.none

passed : cut_down differs 3 ≡ false ∷ false ∷ true ∷ []
unfolding cut_down
passed = rw (first_pass, second_pass, third_pass)

-- ---- of the logs

pub cases : Cases
unfolding records differs three log_refusal blocks_refusal cut_of
cases =
    record {
      first_pass = pass_s records all few (true ∷ true ∷ true ∷ []) ∙ first_pass;
      second_pass = pass_s records all few (true ∷ false ∷ true ∷ []) ∙ second_pass;
      third_pass = pass_s records all few (false ∷ false ∷ true ∷ []) ∙ third_pass;
      result = result;
      code = ap code_of result;
      out = ap (λ c. out_of c (7 ∷ [])) result;
      agree = same_s (asks 3 0 ∷ ends 8 ∷ []) (w3, (w8, tt)) (omega arith) (omega arith) said.without2;
      none = same_s [] tt (omega arith) (omega arith) said.none;
      refused = same_s (ends 8 ∷ asks 16 4 ∷ []) (w8, (w16, tt)) (omega arith) (omega arith) said.without0;
      empty = refl;
      many = many_s (replicate 65 (asks 3 0)) (repeated 65) (omega arith) (omega arith);
    }
  where
    all : All Writable (asks 3 0 ∷ ends 8 ∷ asks 16 4 ∷ [])
    all = (w3, (w8, (w16, tt)))

    few : length (asks 3 0 ∷ ends 8 ∷ asks 16 4 ∷ []) ≤ 20 * (2 ^ 32 - 1)
    few = omega arith

    result : cut_of narrow (log_s (asks 3 0 ∷ ends 8 ∷ asks 16 4 ∷ [])) ≡ keeps (false ∷ false ∷ true ∷ [])
    result = keeps_s records all few (omega arith) said.all ∙ ap keeps passed
