-- One line of counts behind the other.
use Prim.Native.Nat.{ℕ}
use mathlib.Core.Path.{◌≡◌, ap, ◌∙◌}
use mathlib.Core.List.{List, ◌++◌}
use Rattle.report.specs.Bytes.{bytes}
use Rattle.report.specs.Lines.{line_of}
use Rattle.report.specs.Counts.{count_lines}

pub counts_law : (records opened : ℕ) (t1 t2 : List ℕ) → t1 ≡ line_of (bytes "records ") records → t2 ≡ t1 ++ line_of (bytes "opened ") opened → t2 ≡ count_lines records opened
unfolding count_lines
counts_law records opened t1 t2 e1 e2 = e2 ∙ ap (λ (t : List ℕ). t ++ line_of (bytes "opened ") opened) e1
