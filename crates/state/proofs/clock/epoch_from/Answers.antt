-- `epoch_from` divides only where the tick lies past the epoch.
use Rattle.state.proofs.clock.Epochs.{same_epoch}
use Rattle.state.proofs.clock.epoch_from.Goals as goal

pub returns-then-tick-e : goal.returns-then-tick-e
returns-then-tick-e c = same_epoch c.args.tick c.args.e c.args.length c.requires.0 c.requires.1 c.if-tick-e.true
