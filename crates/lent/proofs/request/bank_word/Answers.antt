-- `bank_word` reads the bank's cell of the head.
use Rattle.lent.proofs.request.Settled.{bank_word}
use Rattle.lent.proofs.request.bank_word.Goals as goal

pub returns : goal.returns
returns c = bank_word c.args.head.now c.args.bank c.requires
