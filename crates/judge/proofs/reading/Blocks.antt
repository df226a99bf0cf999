-- A block: refused, block 0, or one with records.
use mathlib.Core.Path.{◌≡◌, refl, sym, ap, ◌∙◌, subst}
use mathlib.Core.List.{List}
use Prim.Native.Nat.{ℕ, ◌+◌, ◌^◌, ◌≤◌, ◌<◌}
use native.Mathlib.Omega.{arith}
use borrow.Author.Tests.{eq-eqb, ne_eqb}
use Rattle.std.specs.Prelude.{Result, Ok, Err}
use Rattle.rules.specs.declared.Setting.{Setting}
use Rattle.rules.specs.State.{State}
use Rattle.log_format.specs.Refusals.{log_refusal_number}
use Rattle.log_format.specs.Contents.{count_in, entries_in}
use Rattle.log_format.specs.Blocks.{block_refusal}
use Rattle.log_format.specs.Verdict.{Running, Step, on, and_then, next_block, judge_records, judge_start, judge_later, judge_sound, judge_block}
use Rattle.log_format.proofs.Steps.{sound_laid_out, later_count}
use Rattle.log_read.specs.declared.block.BlockFault.{BlockFault}
use Rattle.log_read.specs.declared.block.BlockFault.TheVariants.{WrongCheck, BadContents}
use Rattle.log_read.specs.Faults.{fault_refusal}
use Rattle.tally.specs.declared.Progress.{Progress}
use Rattle.tally.specs.declared.Report.{Report}
use Rattle.tally.specs.declared.Report.TheVariants.{Refused}
use Rattle.judge.specs.Follow.{running, result_of, Judged}
use Rattle.judge.specs.Blocks.{Ready, JudgedBlock}
use Rattle.judge.proofs.judged.Steps.{over_then, on_then}
use Rattle.rules.specs.Policy.{narrow}

-- ---- a block with records

-- the progress of a new block, of whose records none is counted, and of one that is read
abbrev pub new_block : Progress → Progress
new_block p = record { blocks = p.blocks; records = p.records; opened = p.opened; last = 0 }

abbrev pub read_block : ℕ → Progress → Progress
read_block blocks q = record { blocks = blocks + 1; records = q.records; opened = q.opened; last = q.last }

follows_next : (x : Running) (y : Step) → Ok x ≡ result_of y → Ok (next_block x) ≡ result_of (and_then y (λ w. on (next_block w)))
follows_next x y h = ap result_of (sym (on_then x y (λ w. on (next_block w)) h))

module _ (s : Setting) (seeds block : List ℕ) (p : Progress) (st left : State) where
  pub later_over : (d : Report) → Judged s seeds (new_block p) 20 (Err d) left (judge_records narrow (running (new_block p) s seeds st) (entries_in block))
      → JudgedBlock p.blocks (Err d) (judge_later narrow (running p s seeds st) block)
  unfolding judge_later
  later_over d j =
      record {
        follows = over_then d (judge_records narrow (running (new_block p) s seeds st) (entries_in block)) (λ w. on (next_block w)) j.follows;
        ready = tt;
        moved = tt;
      }

  pub later_on : (q : Progress) → Ready (running p s seeds st) → 1 ≤ p.blocks → p.blocks < 2 ^ 32
      → Judged s seeds (new_block p) 20 (Ok q) left (judge_records narrow (running (new_block p) s seeds st) (entries_in block))
      → JudgedBlock p.blocks (Ok (running (read_block p.blocks q) s seeds left)) (judge_later narrow (running p s seeds st) block)
  unfolding judge_later
  later_on q ok some few j =
      let r : Running = running q s seeds left in
      let n : next_block r ≡ running (read_block p.blocks q) s seeds left = rw j.blocks refl in
      record {
        follows =
            ap (λ (x : Running). Ok x) (sym n) ∙ follows_next r (judge_records narrow (running (new_block p) s seeds st) (entries_in block)) j.follows;
        ready = record {
          blocks = omega arith;
          records = omega (arith, ok.records, j.records);
          opened = omega (arith, ok.opened, j.opened);
          model = λ _. ((ok.model some).0, j.sound);
        };
        moved = refl;
      }

-- ---- any block

-- the number of a fault is not 0
pub fault_some : (f : BlockFault) → log_refusal_number (fault_refusal f) ≡ 0 → ⊥
fault_some WrongCheck e = absurd (omega arith)
fault_some BadContents e = absurd (omega arith)

module _ (x : Running) (block : List ℕ) where
  abbrev refusal : ℕ
  refusal = log_refusal_number (block_refusal block x.progress.blocks x.progress.last)

  pub block_refused : (f : BlockFault) → fault_refusal f ≡ block_refusal block x.progress.blocks x.progress.last
      → JudgedBlock x.progress.blocks (Err (Refused (log_refusal_number (fault_refusal f)) x.progress.blocks)) (judge_block narrow x block)
  unfolding judge_block
  block_refused f e =
      let n : log_refusal_number (fault_refusal f) ≡ refusal = ap log_refusal_number e in
      record {
        follows = rw (ne_eqb refusal 0 (λ k. fault_some f (n ∙ k))) (ap (λ (c : ℕ). Err (Refused c x.progress.blocks)) n);
        ready = tt;
        moved = tt;
      }

  block_start : refusal ≡ 0 → x.progress.blocks ≡ 0 → judge_block narrow x block ≡ judge_start narrow x block
  unfolding judge_block judge_sound
  block_start e z = rw (eq-eqb refusal 0 e, eq-eqb x.progress.blocks 0 z)

  pub block_started : (r : Result Running Report) → refusal ≡ 0 → x.progress.blocks ≡ 0 → JudgedBlock 0 r (judge_start narrow x block)
      → JudgedBlock x.progress.blocks r (judge_block narrow x block)
  block_started r e n j =
      subst (λ y. JudgedBlock x.progress.blocks r y) (sym (block_start e n)) (subst (λ k. JudgedBlock k r (judge_start narrow x block)) (sym n) j)

  pub block_later : refusal ≡ 0 → (x.progress.blocks ≡ 0 → ⊥) → judge_block narrow x block ≡ judge_later narrow x block
  unfolding judge_block judge_sound
  block_later e z = rw (eq-eqb refusal 0 e, ne_eqb x.progress.blocks 0 z)

  -- a sound block with records has at most 20
  pub block_count : refusal ≡ 0 → (x.progress.blocks ≡ 0 → ⊥) → count_in block ≤ 20
  block_count e z = (later_count block x.progress.blocks x.progress.last (omega arith) (sound_laid_out block x.progress.blocks x.progress.last e)).1
