-- `contents::entry_at`: the fields of the record, in order.
use Rattle.log_format.specs.Contents.{entry_in}
use Rattle.log_read.proofs.contents.entry_at.Goals as goal

pub returns : goal.returns
unfolding entry_in
returns c = simp (c.word64.ensures, c.word64-2.ensures, c.word16.ensures.0, c.byte.ensures.0, c.byte-2.ensures.0, c.byte-3.ensures.0, c.byte-4.ensures.0)
