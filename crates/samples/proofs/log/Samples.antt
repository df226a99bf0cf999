-- The sample runs for the checker. Where every record is the rules' decision the theorem on written logs gives the verdict, and only the
-- rules' replies are computed; the others are computed from their bytes.
use mathlib.Core.Path.{◌≡◌, refl, sym, ap, subst, ◌∙◌}
use mathlib.Core.List.{List, [], ◌∷◌}
use Prim.Native.Nat.{ℕ, ◌-◌, ◌*◌, ◌^◌, ◌≤◌, ◌<◌}
use native.Mathlib.Omega.{arith}
use lib.ListN.{length, replicate}
use Rattle.head.specs.Head.{moved_head, next_place, activated_head}
use Rattle.rules.specs.declared.Cause.TheVariants.{Row}
use Rattle.rules.specs.declared.Answer.TheVariants.{Opened, Wait}
use Rattle.rules.specs.Cells.{All}
use Rattle.rules.specs.Policy.{narrow}
use Rattle.rules.specs.Samples.{house, S}
use Rattle.rules.specs.Setting.{setting_of, history_length, row_bound, fields_in_range, seeds_in_range, setting_refusal}
use Rattle.rules.specs.State.{too_short, fresh_head, fresh}
use Rattle.rules.specs.Clock.{turned_counters, turned_threads, turned}
use Rattle.rules.specs.Hash.{hash, places}
use Rattle.rules.specs.Filter.{estimate, raised, named, counted}
use Rattle.rules.specs.History.{back, never_rises, memory_ok, row_free}
use Rattle.rules.specs.Quota.{half_even, quota_even, in_flight_total}
use Rattle.rules.specs.Decision.{passes_at, wait_tick, decide, activated_threads, activated}
use Rattle.rules.specs.Calls.{Reply, answered, activations, setup_refusal, call_refusal, done_refusal, unless_refused, requested, reported, step}
use Rattle.log_format.specs.Bytes.{little, bytes_of, zeros, block_at}
use Rattle.log_format.specs.Contents.{setting_in, halves, seeds_in, entry_in}
use Rattle.log_format.specs.Blocks.{sum_to, weighted_to, checked, start_laid_out, record_laid_out, records_laid_out, in_turn, laid_out, block_refusal}
use Rattle.log_format.specs.Verdict.{agrees, judged, claims, judge_record, judge_records, memory, judge_start, judge_later, judge_sound, judge_block, judge_blocks, unread, verdict}
use Rattle.log_format.specs.Encode.{record_bytes, put_record, headed, padded, summed, framed, numbers_bytes, put_start, put_records, records_block, start_block, later_blocks, log_bytes_over}
use Rattle.log_format.specs.declared.Entry.{Entry}
use Rattle.log_format.specs.Claims.{calls_of, rules_say, rules_open, Decided, Writable}
use Rattle.log_format.proofs.Theorems.{theorems}
use Rattle.samples.specs.log.Samples.{Cases, asks, log_s}

-- ---- logs of the rules' decisions

writable : (tick answer wait : ℕ) → tick < 2 ^ 64 → wait < 2 ^ 64 → answer ≤ 4 → Writable (asks tick answer wait)
writable tick answer wait t w a =
    record { tick = t; wait = w; row = omega arith; bank = omega arith; thread = omega arith; kind = omega arith; answer = a }

agreeing : (es : List Entry) → All Writable es → length es ≤ 20 * (2 ^ 32 - 1) → Decided es (rules_say narrow S house es)
    → verdict narrow (log_s es) ≡ judged (length es) (rules_open narrow S house es) agrees
unfolding log_s setting_of house history_length row_bound fields_in_range seeds_in_range setting_refusal
agreeing es w few d = theorems.written_agrees narrow (λ b. replicate 512 0) (40 ∷ 1 ∷ 4 ∷ 2 ∷ 6 ∷ 10 ∷ 4 ∷ 1 ∷ 1 ∷ 0 ∷ []) house es (λ b. refl) refl w few d

-- the four records, and what the rules say of them
records : List Entry
records = asks 0 0 0 ∷ asks 1 0 0 ∷ asks 2 3 7 ∷ asks 7 0 0 ∷ []

said : List Reply
said = answered (Opened 1) ∷ answered (Opened 0) ∷ answered (Wait Row 7) ∷ answered (Opened 0) ∷ []

said_is : rules_say narrow S house records ≡ said
unfolding records said setting_of house history_length row_bound fields_in_range seeds_in_range setting_refusal too_short fresh_head fresh turned_counters turned_threads moved_head turned hash places estimate raised named counted next_place back never_rises memory_ok row_free half_even quota_even in_flight_total passes_at wait_tick decide activated_head activated_threads activated setup_refusal call_refusal done_refusal unless_refused requested reported step memory
said_is = refl

four : verdict narrow (log_s (asks 0 0 0 ∷ asks 1 0 0 ∷ asks 2 3 7 ∷ asks 7 0 0 ∷ [])) ≡ judged 4 3 agrees
unfolding records said
four =
    let w : All Writable records = (
      writable 0 0 0 (omega arith) (omega arith) (omega arith),
      (
        writable 1 0 0 (omega arith) (omega arith) (omega arith),
        (
          writable 2 3 7 (omega arith) (omega arith) (omega arith),
          (writable 7 0 0 (omega arith) (omega arith) (omega arith), tt),
        ),
      ),
    ) in
    let d : Decided records said = ((refl, refl), ((refl, refl), ((refl, refl), ((refl, refl), tt)))) in
    agreeing records w (omega arith) (subst (λ (rs : List Reply). Decided records rs) (sym said_is) d)
    ∙ ap (λ (rs : List Reply). judged 4 (length (activations (calls_of records) rs)) agrees) said_is

start : verdict narrow (log_s []) ≡ judged 0 0 agrees
start = agreeing [] tt (omega arith) tt

pub cases : Cases
unfolding house history_length row_bound fields_in_range seeds_in_range setting_refusal too_short fresh_head fresh turned_counters turned_threads moved_head turned hash places estimate raised named counted next_place back never_rises memory_ok row_free half_even quota_even in_flight_total passes_at wait_tick decide activated_head activated_threads activated setup_refusal call_refusal done_refusal unless_refused requested reported step little bytes_of zeros block_at setting_in halves seeds_in entry_in sum_to weighted_to checked start_laid_out record_laid_out records_laid_out in_turn laid_out block_refusal claims judge_record judge_records memory judge_start judge_later judge_sound judge_block judge_blocks unread verdict record_bytes put_record headed padded summed framed numbers_bytes put_start put_records records_block start_block later_blocks log_bytes_over log_s
cases = record { four = four; start = start; wait8 = refl; empty = refl }
