-- `put_sums`: the remainders of both sums, stored one after the other.
use mathlib.Core.Path.{refl, sym, ◌∙◌}
use Rattle.log_format.specs.Encode.{summed}
use Rattle.log_format.proofs.Stores.{sets_number}
use Rattle.log_writer.proofs.frame.put_sums.Goals as goal

pub returns : goal.returns
unfolding summed
returns c =
    c.put-2.ensures
    ∙ rw (c.put.ensures, c.from.ensures, c.from-2.ensures, c.add_up-s.ensures.0, c.add_up-s.ensures.1) (sym (sets_number _ _ 508 2 _ 510 refl))
