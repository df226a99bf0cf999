-- Texts of the specification's sample runs, word for word, and the longest number.
use Rattle.std.specs.Prelude.{◌≡◌, refl}
use Rattle.tally.specs.declared.Report.TheVariants.{Refused, Agrees, Differs}
use Rattle.report.specs.Bytes.{bytes}
use Rattle.report.specs.Lines.{decimal_from, decimal_of, line_of, line_of_two}
use Rattle.report.specs.Counts.{count_lines}
use Rattle.report.specs.Text.{text_of}

pub four_records : text_of (Agrees 4 3) ≡ bytes "records 4\nopened 3\nagrees\n"
unfolding text_of count_lines line_of decimal_of decimal_from
four_records = refl

pub block_0_alone : text_of (Agrees 0 0) ≡ bytes "records 0\nopened 0\nagrees\n"
unfolding text_of count_lines line_of decimal_of decimal_from
block_0_alone = refl

pub wait_8 : text_of (Differs 3 2 1 3) ≡ bytes "records 3\nopened 2\ndiffers 1 3\n"
unfolding text_of count_lines line_of line_of_two decimal_of decimal_from
wait_8 = refl

pub empty_input : text_of (Refused 11 0) ≡ bytes "refused 11 0\n"
unfolding text_of line_of_two decimal_of decimal_from
empty_input = refl

pub longest : decimal_of 18446744073709551615 ≡ bytes "18446744073709551615"
unfolding decimal_of decimal_from
longest = refl
