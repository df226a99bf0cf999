-- `contents::setting`: the nine numbers and the mark are the fields, in order.
use Rattle.log_format.specs.Contents.{setting_in}
use Rattle.log_read.proofs.contents.setting.Goals as goal

pub returns : goal.returns
unfolding setting_in
returns c =
    simp (
      c.word32.ensures.0,
      c.word32-2.ensures.0,
      c.word32-3.ensures.0,
      c.word32-4.ensures.0,
      c.word32-5.ensures.0,
      c.word32-6.ensures.0,
      c.word32-7.ensures.0,
      c.word32-8.ensures.0,
      c.word32-9.ensures.0,
      c.byte.ensures.0,
    )
