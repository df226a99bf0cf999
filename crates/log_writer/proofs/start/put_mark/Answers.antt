-- `put_mark`: by what `put` ensures.
use Rattle.log_writer.proofs.start.put_mark.Goals as goal

pub returns : goal.returns
returns c = c.put.ensures
