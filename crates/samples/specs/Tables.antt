-- The whole table of cases, with a joint statement: of document 01's rules and of those in force. One line of document 01 differs.
use Rattle.std.specs.Prelude.{◌≡◌, [], ◌∷◌}
use Rattle.rules.specs.Policy.{document01, narrow}
use Rattle.samples.specs.Cases.{Numbers, Cases, run, opened, wait_row, to_tick8, flying}
use Rattle.samples.specs.Rounding.{Rounded}
use Rattle.samples.specs.Totals.{Totals}
use Rattle.samples.specs.Left.{Left}
use Rattle.samples.specs.Profiles.{Profiles}

pub record Tables : Type 0 where
  pub numbers : Numbers
  pub old_cases : Cases document01
  pub new_cases : Cases narrow
  -- "S, row 5 at ticks 0, 1, 2: opened, opened, wait row until 7. At 7: opened; quota now 3, three in flight, so at 8: quota."
  pub tick8 : run document01 to_tick8 ≡ opened ∷ opened ∷ wait_row 7 ∷ opened ∷ (0 ∷ 1 ∷ 8 ∷ 3 ∷ []) ∷ (0 ∷ 4 ∷ 0 ∷ []) ∷ []
  pub three : flying document01 ≡ 3
  -- the same line of the rules in force, and the other cases of document 02, d
  pub rounded : Rounded
  -- the cases of document 02, b
  pub totals : Totals
  -- the cases of document 02, e
  pub left : Left
  -- the cases of document 02, g
  pub profiles : Profiles
