-- The text of each of the three kinds of reports, line by line.
use Prim.Native.Nat.{ℕ, ◌≤◌}
use mathlib.Core.Path.{◌≡◌, sym, ap, ◌∙◌}
use mathlib.Core.List.{List, ◌++◌}
use lib.ListN.{length, take}
use lib.Seq.{length-take-le}
use Rattle.io.specs.Counts.{IsPrefixLen}
use Rattle.tally.specs.declared.Report.{Report}
use Rattle.tally.specs.declared.Report.TheVariants.{Refused, Agrees, Differs}
use Rattle.report.specs.Bytes.{bytes}
use Rattle.report.specs.Lines.{line_of_two}
use Rattle.report.specs.Counts.{count_lines}
use Rattle.report.specs.Text.{text_of}

pub refused_text : (report : Report) (number blocks : ℕ) (t : List ℕ) → report ≡ Refused number blocks → t ≡ line_of_two (bytes "refused ") number blocks → t ≡ text_of report
unfolding text_of
refused_text report number blocks t e h = h ∙ ap text_of (sym e)

pub agrees_text : (report : Report) (records opened : ℕ) (t1 t2 : List ℕ) → report ≡ Agrees records opened → t1 ≡ count_lines records opened → t2 ≡ t1 ++ bytes "agrees\n"
    → t2 ≡ text_of report
unfolding text_of
agrees_text report records opened t1 t2 e h1 h2 = h2 ∙ ap (λ (t : List ℕ). t ++ bytes "agrees\n") h1 ∙ ap text_of (sym e)

pub differs_text : (report : Report) (records opened block place : ℕ) (t1 t2 : List ℕ) → report ≡ Differs records opened block place
    → t1 ≡ count_lines records opened → t2 ≡ t1 ++ line_of_two (bytes "differs ") block place → t2 ≡ text_of report
unfolding text_of
differs_text report records opened block place t1 t2 e h1 h2 = h2 ∙ ap (λ (t : List ℕ). t ++ line_of_two (bytes "differs ") block place) h1 ∙ ap text_of (sym e)

-- so many bytes of the buffer
pub laid : (n : ℕ) (out text : List ℕ) → n ≤ length out → take n out ≡ text → IsPrefixLen n out × (take n out ≡ text)
laid n out text h e = ((h, sym (length-take-le n out h)), e)
