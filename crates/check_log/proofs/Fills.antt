-- Some bytes stand for what was read so far.
use Prim.Native.Nat.{ℕ}
use mathlib.Core.Path.{◌≡◌, sym, ap, ◌∙◌}
use mathlib.Core.Bool.{Bool, true, false}
use mathlib.Core.List.{List, [], ◌∷◌, ◌++◌, append_assoc, append-nil}
use native.Mathlib.Omega.{arith}
use lib.ListN.{length}
use Rattle.std.specs.Prelude.{Ok, Err}
use Rattle.rules.specs.Policy.{limits01, narrow}
use Rattle.log_format.specs.Verdict.{Running, over, memory, ended, judge_block, judge_blocks, unread, verdict}
use Rattle.tally.specs.declared.Report.{Report}
use Rattle.judge.specs.Follow.{report_of, result_of}
use Rattle.judge.specs.Blocks.{JudgedBlock}
use Rattle.checker.proofs.Logs.{unread_blocks, over_verdict, on_verdict}
use Rattle.check_log.specs.declared.input.Filled.{Filled}
use Rattle.check_log.specs.declared.input.Filled.TheVariants.{Whole as IsWhole, End, Cut}
use Rattle.check_log.specs.Fills.{judge_filled}
use Rattle.check_log.proofs.Parts.{Whole, joined, whole_more, verdict_joined}

-- ---- one block

-- no block more: the log is over
pub no_block : (blocks : ℕ) (x : Running) (whole : Bool) (r : Report) → r ≡ report_of (ended x.progress whole)
    → JudgedBlock blocks (Err r) (over (ended x.progress whole))
no_block blocks x whole r e = record { follows = ap (λ (d : Report). Err d) e; ready = tt; moved = tt }

-- ---- block after block

-- the blocks that were read, and that the log goes on as if only what they left were known
pub record SoFar (x : Running) : Type 0 where
  pub blocks : List (List ℕ)
  pub whole : Whole blocks
  pub same : (rest : List (List ℕ)) (end : Bool) → judge_blocks narrow (unread limits01) (blocks ++ rest) end ≡ judge_blocks narrow x rest end

-- the report is the verdict of some bytes
abbrev pub OfSome : Report → Type 0
OfSome r = (bytes : List ℕ) × (r ≡ report_of (verdict narrow bytes))

pub none_yet : (x : Running) → x.progress ≡ (unread limits01).progress → x.state ≡ memory limits01 → SoFar x
none_yet x e m = record { blocks = []; whole = tt; same = λ rest end. unread_blocks x rest end e m }

module _ (x : Running) (s : List ℕ) (v : SoFar x) (size : length s ≡ 512) where
  -- a block more
  block_more : (z : Running) → Ok z ≡ result_of (judge_block narrow x s) → SoFar z
  unfolding judge_blocks
  block_more z f =
      record {
        blocks = v.blocks ++ (s ∷ []);
        whole = whole_more v.blocks s v.whole size;
        same = λ rest end.
            ap (λ (bs : List (List ℕ)). judge_blocks narrow (unread limits01) bs end) (append_assoc v.blocks (s ∷ []) rest)
            ∙ v.same (s ∷ rest) end
            ∙ on_verdict z (judge_block narrow x s) (λ y. judge_blocks narrow y rest end) f;
      }

  -- a block with an event: what was read up to its end
  block_over : (r : Report) → Err r ≡ result_of (judge_block narrow x s) → OfSome r
  unfolding judge_blocks
  block_over r f = (
    joined (v.blocks ++ (s ∷ [])) [],
    over_verdict r (judge_block narrow x s) (λ y. judge_blocks narrow y [] true) f
        ∙ ap report_of (sym (verdict_joined (v.blocks ++ (s ∷ [])) [] (whole_more v.blocks s v.whole size) (omega arith) ∙ v.same (s ∷ []) true)),
  )

-- the input is at its end
at_end : (x : Running) (r : Report) → SoFar x → r ≡ report_of (ended x.progress true) → OfSome r
unfolding judge_blocks
at_end x r v e = (
  joined v.blocks [],
  e ∙ ap report_of (sym (verdict_joined v.blocks [] v.whole (omega arith)
      ∙ ap (λ (bs : List (List ℕ)). judge_blocks narrow (unread limits01) bs true) (sym (append-nil v.blocks))
      ∙ v.same [] true)),
)

-- it is cut: one byte stands for those of the block that were read, or for those that could not be
at_cut : (x : Running) (r : Report) → SoFar x → r ≡ report_of (ended x.progress false) → OfSome r
unfolding judge_blocks
at_cut x r v e = (
  joined v.blocks (0 ∷ []),
  e ∙ ap report_of (sym (verdict_joined v.blocks (0 ∷ []) v.whole (omega arith)
      ∙ ap (λ (bs : List (List ℕ)). judge_blocks narrow (unread limits01) bs false) (sym (append-nil v.blocks))
      ∙ v.same [] false)),
)

module _ (x : Running) (s : List ℕ) (v : SoFar x) (size : length s ≡ 512) where
  pub goes_on : (f : Filled) (z : Running) → Ok z ≡ result_of (judge_filled f x s) → SoFar z
  goes_on IsWhole z h = block_more x s v size z h
  goes_on End z h = cc
  goes_on Cut z h = cc

  pub is_over : (f : Filled) (r : Report) → Err r ≡ result_of (judge_filled f x s) → OfSome r
  is_over IsWhole r h = block_over x s v size r h
  is_over End r h = at_end x r v cc
  is_over Cut r h = at_cut x r v cc
