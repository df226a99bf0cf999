-- `put_head`: three runs of stores, one after another.
use mathlib.Core.Path.{◌∙◌}
use Rattle.log_format.proofs.Stores.{head_stores}
use Rattle.log_writer.proofs.frame.put_head.Goals as goal

pub returns : goal.returns
returns c = c.put-3.ensures ∙ rw (c.put-2.ensures, c.put.ensures) (head_stores c.args.block.now c.args.number c.args.count)
