-- `frame`: head, zeros and sums, one after another.
use mathlib.Core.Path.{◌∙◌}
use Rattle.log_format.specs.Encode.{framed}
use Rattle.log_writer.proofs.frame.frame.Goals as goal

pub returns : goal.returns
unfolding framed
returns c = c.put_sums.ensures ∙ rw (c.pad.ensures, c.put_head.ensures)
