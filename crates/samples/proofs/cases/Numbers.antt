-- The cases of document 01 without a run, by computation.
use mathlib.Core.Path.{refl}
use Rattle.rules.specs.Setting.{setting_of, history_length, row_bound, fields_in_range, seeds_in_range, setting_refusal}
use Rattle.rules.specs.State.{head_of, too_short}
use Rattle.rules.specs.Hash.{hash, places}
use Rattle.rules.specs.Filter.{raised, named, counted}
use Rattle.rules.specs.Calls.{setup_refusal}
use Rattle.rules.specs.Samples.{house}
use Rattle.samples.specs.Cases.{before, Numbers}

pub numbers : Numbers
unfolding house before setting_of history_length row_bound fields_in_range seeds_in_range setting_refusal head_of too_short hash places raised named counted setup_refusal
numbers =
    record {
      bound = refl;
      history = refl;
      limit9 = refl;
      accepted = refl;
      setup = refl;
      bound4096 = refl;
      bound31064 = refl;
      bound8192 = refl;
      row3 = (refl, refl);
      row0 = refl;
      row0_adds = refl;
      published = refl;
      half = refl;
    }
