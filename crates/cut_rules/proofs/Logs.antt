-- Logs of the records that stay: the checker says `differs` of each, and of none that has one record less.
use mathlib.Core.Path.{◌≡◌, sym, ap, ◌∙◌, subst}
use mathlib.Core.List.{List, ◌++◌}
use mathlib.Core.Bool.{not}
use Prim.Native.Nat.{ℕ}
use native.Mathlib.Omega.{arith}
use lib.Dec.{T}
use Rattle.rules.specs.Policy.{Policy}
use Rattle.rules.proofs.Tests.{holds}
use Rattle.log_format.specs.declared.Entry.{Entry}
use Rattle.log_format.specs.Bytes.{block_at}
use Rattle.log_format.specs.Contents.{setting_in, seeds_in}
use Rattle.log_format.specs.Verdict.{judge_start}
use Rattle.log_format.specs.Claims.{seeds_of_log, records_of}
use Rattle.log_format.proofs.WrittenLog.{written_log}
use Rattle.cut_rules.specs.selections.Claims.{CutList}
use Rattle.cut_rules.proofs.selections.Results.{cuts_list}
use Rattle.cut_rules.specs.Cut.{judgement, differing}
use Rattle.cut_rules.specs.Claims.{Answer, cut_records, CheckerSays, StillDiffers, EachNeeded, Written}
use Rattle.cut_rules.proofs.Verdicts.{verdict_differs}
use Rattle.cut_rules.proofs.Answers.{selected}

-- of block 0 only the setting and the seeds play a part
pub same_start : (p : Policy) (s t : List ℕ) (es : List Entry) → setting_in s ≡ setting_in t → seeds_in s ≡ seeds_in t → differing p s es ≡ differing p t es
unfolding differing judgement judge_start
same_start p s t es a b = rw (a, b)

pub checker_says : (p : Policy) → CheckerSays p
checker_says p bytes es other l =
    sym
    (verdict_differs p other l.well_formed ∙ ap (differing p (block_at other 0)) l.records
    ∙ same_start p (block_at other 0) (block_at bytes 0) es l.setting l.seeds)

-- the records that stay
stay : (p : Policy) (bytes : List ℕ) (m : ℕ) → Answer p bytes m → CutList (differing p (block_at bytes 0)) (records_of bytes) (cut_records bytes m)
stay p bytes m a =
    let s = selected p bytes m a in
    rw s.selection (cuts_list Entry (differing p (block_at bytes 0)) (records_of bytes) (holds _ s.kept.differs))

pub still_differs : (p : Policy) → StillDiffers p
still_differs p bytes m a other l = subst T (checker_says p bytes (cut_records bytes m) other l) (stay p bytes m a).still

pub each_needed : (p : Policy) → EachNeeded p
each_needed p bytes m a front back e here other l =
    subst (λ b. T (not b)) (checker_says p bytes (front ++ back) other l) ((stay p bytes m a).needed front back e here)

pub written : (p : Policy) → Written p
written p bytes old setting es r e len w few =
    let h = written_log p.limits old setting (seeds_of_log bytes) es len (rw e r.accepted) w (omega arith) in
    record { well_formed = h.well_formed; setting = h.setting ∙ e; seeds = h.seeds; records = h.records }
