-- What a run of a selection goes by: the counts that it begins with, and what a report says.
use Rattle.std.specs.Prelude.{Bool, true, false}
use Rattle.tally.specs.declared.Progress.{Progress}
use Rattle.tally.specs.declared.Report.{Report}
use Rattle.tally.specs.declared.Report.TheVariants.{Refused, Agrees, Differs}

-- the counts before the first record
abbrev pub none_judged : Progress
none_judged = record { blocks = 1; records = 0; opened = 0; last = 0 }

-- a report says `differs`
abbrev pub report_differs : Report → Bool
report_differs (Refused number blocks) = false
report_differs (Agrees records opened) = false
report_differs (Differs records opened block place) = true
