-- `put_record`: eight runs of stores, one after another.
use mathlib.Core.Path.{◌∙◌}
use Rattle.log_format.specs.Contents.{record_at}
use Rattle.log_format.specs.Encode.{put_record}
use Rattle.log_format.proofs.Stores.{record_stores}
use Rattle.log_writer.proofs.write.put_record.Goals as goal

pub returns : goal.returns
unfolding put_record
returns c =
    c.put-8.ensures
    ∙ rw (c.put-7.ensures, c.put-6.ensures, c.put-5.ensures, c.put-4.ensures, c.put-3.ensures, c.from.ensures, c.put-2.ensures, c.put.ensures)
    (record_stores c.args.block.now (record_at c.args.k) c.args.e)
