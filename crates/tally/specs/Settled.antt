-- What is counted and reported of one record, refused or answered. Ok: the log goes on with this progress. Err: it is over with this report.
use Rattle.std.specs.Prelude.{◌&&◌, cond, ℕ, ◌+◌, ◌^◌, ◌≤◌, eqb, Result, Ok, Err}
use Rattle.log_format.specs.declared.Entry.{Entry}
use Rattle.tally.specs.declared.Progress.{Progress}
use Rattle.tally.specs.declared.Report.{Report}
use Rattle.tally.specs.declared.Report.TheVariants.{Refused, Differs}

-- the log ends with a refusal
abbrev pub refused_by : ℕ → Progress → Report
refused_by number p = Refused number p.blocks

-- one record more
abbrev pub counted_one : Progress → ℕ → Progress
counted_one p opened = record { blocks = p.blocks; records = p.records + 1; opened = p.opened + opened; last = p.last + 1 }

-- a record that is answered: counted, and over where it claims another answer or wait tick
abbrev pub settled : Progress → Entry → ℕ → ℕ → ℕ → Result Progress Report
settled p e number wait opened =
    let q = counted_one p opened in
    cond (eqb e.answer number && eqb e.wait wait) (Ok q) (Err (Differs q.records q.opened q.blocks q.last))

-- the counts have room for so many records more
pub record Room (p : Progress) (most : ℕ) : Type 0 where
  pub records : p.records + most ≤ 2 ^ 62
  pub opened : p.opened + most ≤ 2 ^ 62
  pub last : p.last + most ≤ 2 ^ 62
