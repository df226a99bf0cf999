-- What is handed back after a step, where another step comes next.
use mathlib.Core.Path.{◌≡◌, ap}
use Rattle.std.specs.Prelude.{Ok, Err}
use Rattle.log_format.specs.Verdict.{Running, Step, over, on, and_then}
use Rattle.tally.specs.declared.Report.{Report}
use Rattle.judge.specs.Follow.{result_of}

-- a log that is over stays over
pub over_then : (d : Report) (y : Step) (f : Running → Step) → Err d ≡ result_of y → Err d ≡ result_of (and_then y f)
over_then d (over v) f h = h
over_then d (on y) f h = cc

-- a log that goes on goes on with the next step
pub on_then : (x : Running) (y : Step) (f : Running → Step) → Ok x ≡ result_of y → and_then y f ≡ f x
on_then x (over v) f h = cc
on_then x (on y) f h = let e : y ≡ x = cc in ap f e
