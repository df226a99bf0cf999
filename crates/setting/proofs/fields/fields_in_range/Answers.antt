-- `fields::fields_in_range`: the chain of tests is the definition's, test by test.
use Rattle.rules.specs.Setting.{fields_in_range}
use Rattle.setting.proofs.fields.fields_in_range.Goals as goal

pub returns : goal.returns
unfolding fields_in_range
returns c =
    simp (
      c.is_known.ensures,
      c.and_within-threads.ensures,
      c.and_within-banks.ensures,
      c.and_within-q.ensures,
      c.and_within-l.ensures,
      c.and_within-td.ensures,
      c.and_within-n.ensures,
      c.and_within-tfaw.ensures,
      c.and_within-trc.ensures,
      c.within.ensures,
    )
