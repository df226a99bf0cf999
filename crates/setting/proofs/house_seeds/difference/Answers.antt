-- `house_seeds::difference` meets its contract: seed by seed, what the bits say of the seeds passed.
use Rattle.rules.specs.Samples.{house}
use Rattle.setting.proofs.house_seeds.Same.{other_length, differing_pairs}
use Rattle.setting.proofs.house_seeds.difference.Goals as goal

pub returns-then-seeds-ne64 : goal.returns-then-seeds-ne64
returns-then-seeds-ne64 c = other_length c.args.seeds.now c.if-seeds-ne64.true

pub returns : goal.returns
unfolding house
returns c = rw c.differing_bits.ensures (differing_pairs c.args.seeds.now c.if-seeds-ne64.false)
