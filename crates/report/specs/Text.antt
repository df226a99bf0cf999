-- The text of a report: fixed words and decimal numbers.
use Rattle.std.specs.Prelude.{List, ◌++◌, ℕ}
use Rattle.tally.specs.declared.Report.{Report}
use Rattle.tally.specs.declared.Report.TheVariants.{Refused, Agrees, Differs}
use Rattle.report.specs.Bytes.{bytes}
use Rattle.report.specs.Lines.{line_of_two}
use Rattle.report.specs.Counts.{count_lines}

-- "A refusal .. prints one line: `refused`, its number and the count of whole blocks read before the one at fault. Otherwise three lines: ..
-- then `agrees`, or `differs` with block number (from 0) and record place in it (from 1)"
unfoldable pub text_of : Report → List ℕ
text_of (Refused number blocks) = line_of_two (bytes "refused ") number blocks
text_of (Agrees records opened) = count_lines records opened ++ bytes "agrees\n"
text_of (Differs records opened block place) = count_lines records opened ++ line_of_two (bytes "differs ") block place
