-- The blocks of a log one by one.
use mathlib.Core.Path.{◌≡◌, refl, sym, ap, ◌∙◌}
use mathlib.Core.List.{List, [], ◌∷◌}
use mathlib.Core.Bool.{Bool}
use Rattle.std.specs.Prelude.{Ok, Err}
use Prim.Native.Nat.{ℕ, zero, suc, ◌+◌, ◌-◌, ◌*◌, ◌/◌, ◌%◌, ◌<◌}
use native.Mathlib.Omega.{arith}
use lib.Dec.{eqb}
use lib.ListN.{length, get_or, drop}
use lib.Seq.{drop-drop}
use native.Mathlib.Nat.{zero-add}
use Rattle.std.specs.Simd.{first_chunks}
use Rattle.head.specs.declared.Head.{Head}
use Rattle.rules.specs.State.{fresh_head, state}
use Rattle.log_format.specs.Bytes.{block_at, blocks_from}
use Rattle.log_format.specs.Verdict.{Verdict, Running, Step, over, on, memory, ended, verdict_of, judge_start, judge_sound, judge_block, judge_blocks, unread, verdict}
use Rattle.log_format.proofs.Steps.{blocks_step}
use Rattle.tally.specs.declared.Report.{Report}
use Rattle.judge.specs.Follow.{report_of, result_of}
use Rattle.judge.specs.Blocks.{Ready, JudgedBlock}
use Rattle.rules.specs.Policy.{limits01, narrow}

-- ---- before the first block

-- only the progress and the memory are looked at
unread_block : (x : Running) (block : List ℕ) → x.progress ≡ (unread limits01).progress → x.state ≡ memory limits01
    → judge_block narrow x block ≡ judge_block narrow (unread limits01) block
unfolding judge_block judge_sound judge_start unread
unread_block x block e m = rw (e, m)

pub unread_blocks : (x : Running) (blocks : List (List ℕ)) (whole : Bool) → x.progress ≡ (unread limits01).progress → x.state ≡ memory limits01
    → judge_blocks narrow (unread limits01) blocks whole ≡ judge_blocks narrow x blocks whole
unfolding judge_blocks
unread_blocks x [] whole e m = rw e
unread_blocks x (s ∷ ss) whole e m = rw (unread_block x s e m)

-- a fresh head and buffers of zeros are the memory of the definition
pub start_memory : (h : Head) → h ≡ fresh_head
    → state h (memory limits01).counters (memory limits01).ticks (memory limits01).rows (memory limits01).threads ≡ memory limits01
unfolding memory
start_memory h e = rw e refl

-- ---- block by block

pub over_verdict : (d : Report) (y : Step) (f : Running → Verdict) → Err d ≡ result_of y → d ≡ report_of (verdict_of y f)
over_verdict d (over v) f h = cc
over_verdict d (on y) f h = cc

pub on_verdict : (x : Running) (y : Step) (f : Running → Verdict) → Ok x ≡ result_of y → verdict_of y f ≡ f x
on_verdict x (over v) f h = cc
on_verdict x (on y) f h = let e : y ≡ x = cc in ap f e

module _ (bytes : List ℕ) (n : ℕ) (whole : Bool) where
  -- the verdict of all n blocks
  abbrev pub of_all : Verdict
  of_all = judge_blocks narrow (unread limits01) (blocks_from bytes 0 n) whole

  -- after b blocks: what the rest gives is what all give
  pub record Through (b : ℕ) (x : Running) : Type 0 where
    pub rest : of_all ≡ judge_blocks narrow x (blocks_from bytes b (n - b)) whole
    pub ready : Ready x

  pub through_none : (x : Running) → x.progress ≡ (unread limits01).progress → x.state ≡ memory limits01 → Ready x → Through 0 x
  through_none x e m ok =
      let z : n - 0 ≡ n = omega arith in
      record { rest = rw z (unread_blocks x (blocks_from bytes 0 n) whole e m); ready = ok }

  module _ (b : ℕ) (x : Running) (t : Through b x) (more : b < n) where
    -- the rest, by the step of block b
    after_one : Running → Verdict
    after_one y = judge_blocks narrow y (blocks_from bytes (b + 1) (n - b - 1)) whole

    by_one : of_all ≡ verdict_of (judge_block narrow x (block_at bytes b)) after_one
    unfolding after_one
    by_one = t.rest ∙ blocks_step narrow x bytes b (n - b) whole (omega arith)

    pub through_more : (z : Running) → JudgedBlock x.progress.blocks (Ok z) (judge_block narrow x (block_at bytes b)) → Through (b + 1) z
    unfolding after_one
    through_more z j =
        let k : n - (b + 1) ≡ n - b - 1 = omega arith in
        record { rest = by_one ∙ on_verdict z (judge_block narrow x (block_at bytes b)) after_one j.follows ∙ rw k refl; ready = j.ready }

    pub through_over : (d : Report) → JudgedBlock x.progress.blocks (Err d) (judge_block narrow x (block_at bytes b)) → d ≡ report_of of_all
    through_over d j = over_verdict d (judge_block narrow x (block_at bytes b)) after_one j.follows ∙ ap report_of (sym by_one)

  pub through_all : (b : ℕ) (x : Running) → Through b x → b ≡ n → of_all ≡ ended x.progress whole
  unfolding judge_blocks
  through_all b x t e =
      let z : n - b ≡ 0 = omega arith in
      t.rest ∙ rw z refl

-- the verdict is the one of all whole blocks, and of whether something is left behind them
pub of_bytes : (bytes : List ℕ) → verdict narrow bytes ≡ of_all bytes (length bytes / 512) (eqb (length bytes % 512) 0)
unfolding verdict
of_bytes bytes = refl

-- ---- the blocks as arrays

pub block_of : (n b i : ℕ) (bytes : List ℕ) → i < n → get_or (blocks_from bytes b n) i [] ≡ block_at bytes (b + i)
block_of zero b i bytes h = absurd (omega arith)
block_of (suc n) b zero bytes h = let e : b ≡ b + 0 = omega arith in ap (block_at bytes) e
block_of (suc n) b (suc i) bytes h = let e : suc b + i ≡ b + suc i = omega arith in block_of n (suc b) i bytes (omega arith) ∙ ap (block_at bytes) e

pub chunks_are_blocks : (n b : ℕ) (bytes : List ℕ) → first_chunks 512 n (drop (512 * b) bytes) ≡ blocks_from bytes b n
unfolding block_at
chunks_are_blocks zero b bytes = refl
chunks_are_blocks (suc n) b bytes =
    let at : 512 * b + 512 ≡ 512 * suc b = omega arith in
    let next : drop 512 (drop (512 * b) bytes) ≡ drop (512 * suc b) bytes = drop-drop 512 (512 * b) bytes ∙ ap (λ (k : ℕ). drop k bytes) at in
    ap (λ (bs : List (List ℕ)). block_at bytes b ∷ bs) (ap (first_chunks 512 n) next ∙ chunks_are_blocks n (suc b) bytes)

-- block i of the arrays
pub array_is : (bytes : List ℕ) (arrays : List (List ℕ)) (n i : ℕ) → arrays ≡ first_chunks 512 n bytes → i < n → get_or arrays i [] ≡ block_at bytes i
array_is bytes arrays n i e h = ap (λ (bs : List (List ℕ)). get_or bs i []) (e ∙ chunks_are_blocks n 0 bytes) ∙ block_of n 0 i bytes h ∙ ap (block_at bytes) (zero-add i)
