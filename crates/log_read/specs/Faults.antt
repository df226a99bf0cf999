-- The faults of one block by name, with the refusals of the log that they are.
use Rattle.std.specs.Prelude.{Result, Ok, Err}
use Rattle.log_format.specs.Refusals.{LogRefusal, wrong_check, bad_contents, sound}
use Rattle.log_read.specs.declared.block.BlockFault.{BlockFault}
use Rattle.log_read.specs.declared.block.BlockFault.TheVariants.{WrongCheck, BadContents}

-- the refusal that a fault is
abbrev pub fault_refusal : BlockFault → LogRefusal
fault_refusal WrongCheck = wrong_check
fault_refusal BadContents = bad_contents

-- no refusal, or that of the fault
abbrev pub refusal_of : Result (Unit {0}) BlockFault → LogRefusal
refusal_of (Ok u) = sound
refusal_of (Err f) = fault_refusal f
