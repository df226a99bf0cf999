-- The lines of counts of a report.
use Rattle.std.specs.Prelude.{List, ◌++◌, ℕ}
use Rattle.report.specs.Bytes.{bytes}
use Rattle.report.specs.Lines.{line_of}

-- "`records` and the count judged, `opened` and the count opened"
unfoldable pub count_lines : ℕ → ℕ → List ℕ
count_lines records opened = line_of (bytes "records ") records ++ line_of (bytes "opened ") opened
