-- The records of a block one by one.
use mathlib.Core.Path.{◌≡◌, refl, sym, ap, ◌∙◌}
use mathlib.Core.List.{List}
use Rattle.std.specs.Prelude.{Ok, Err}
use Prim.Native.Nat.{ℕ, ◌+◌, ◌-◌, ◌≤◌, ◌<◌}
use native.Mathlib.Omega.{arith}
use Rattle.rules.specs.declared.Setting.{Setting}
use Rattle.rules.specs.State.{State}
use Rattle.rules.specs.Tested.{Sound}
use Rattle.log_format.specs.declared.Entry.{Entry}
use Rattle.log_format.specs.Contents.{entry_in, entries_from}
use Rattle.log_format.specs.Verdict.{Running, Step, on, and_then, judge_record, judge_records}
use Rattle.log_format.proofs.Steps.{records_step}
use Rattle.tally.specs.declared.Progress.{Progress}
use Rattle.tally.specs.declared.Report.{Report}
use Rattle.judge.specs.Follow.{running, Judged}
use Rattle.judge.proofs.judged.Steps.{over_then, on_then}
use Rattle.rules.specs.Policy.{narrow}

module _ (s : Setting) (seeds block : List ℕ) (p : Progress) (n : ℕ) (start : State) where
  -- the step of all n records
  abbrev pub whole : Step
  whole = judge_records narrow (running p s seeds start) (entries_from block 0 n)

  -- after k records that agree: what the rest gives is what all give
  pub record Going (k : ℕ) (q : Progress) (st : State) : Type 0 where
    pub rest : whole ≡ judge_records narrow (running q s seeds st) (entries_from block k (n - k))
    pub sound : Sound s st
    pub blocks : q.blocks ≡ p.blocks
    pub records : q.records ≤ p.records + k
    pub opened : q.opened ≤ p.opened + k
    pub last : q.last ≤ p.last + k

  pub going_none : Sound s start → Going 0 p start
  going_none ok =
      let z : n - 0 ≡ n = omega arith in
      record { rest = rw z refl; sound = ok; blocks = refl; records = omega arith; opened = omega arith; last = omega arith }

  module _ (k : ℕ) (q : Progress) (st : State) (g : Going k q st) (more : k < n) (e : Entry) (is : e ≡ entry_in block k) (left : State) where
    -- the rest, by the step of record k
    after_one : Running → Step
    after_one y = judge_records narrow y (entries_from block (k + 1) (n - k - 1))

    by_one : whole ≡ and_then (judge_record narrow (running q s seeds st) e) after_one
    unfolding after_one
    by_one =
        g.rest
        ∙ records_step narrow (running q s seeds st) block k (n - k) (omega arith)
        ∙ ap (λ (d : Entry). and_then (judge_record narrow (running q s seeds st) d) after_one) (sym is)

    pub going_more : (r : Progress) → Judged s seeds q 1 (Ok r) left (judge_record narrow (running q s seeds st) e) → Going (k + 1) r left
    unfolding after_one
    going_more r j =
        let z : n - (k + 1) ≡ n - k - 1 = omega arith in
        record {
          rest = by_one ∙ on_then (running r s seeds left) (judge_record narrow (running q s seeds st) e) after_one j.follows ∙ rw z refl;
          sound = j.sound;
          blocks = j.blocks ∙ g.blocks;
          records = omega (arith, j.records, g.records);
          opened = omega (arith, j.opened, g.opened);
          last = omega (arith, j.last, g.last);
        }

    pub going_over : (d : Report) → Judged s seeds q 1 (Err d) left (judge_record narrow (running q s seeds st) e) → Judged s seeds p 20 (Err d) left whole
    unfolding after_one
    going_over d j =
        record {
          follows = rw by_one (over_then d (judge_record narrow (running q s seeds st) e) after_one j.follows);
          sound = j.sound;
          blocks = tt;
          records = tt;
          opened = tt;
          last = tt;
        }

  pub going_all : (k : ℕ) (q : Progress) (st : State) → Going k q st → k ≡ n → n ≤ 20 → Judged s seeds p 20 (Ok q) st whole
  unfolding judge_records
  going_all k q st g e m =
      let z : n - k ≡ 0 = omega arith in
      let r : whole ≡ on (running q s seeds st) = g.rest ∙ rw z refl in
      record {
        follows = rw r refl;
        sound = g.sound;
        blocks = g.blocks;
        records = omega (arith, g.records);
        opened = omega (arith, g.opened);
        last = omega (arith, g.last);
      }
