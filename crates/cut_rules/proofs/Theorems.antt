-- All statements of specs/Claims.antt.
use Rattle.cut_rules.specs.Claims.{Theorems}
use Rattle.cut_rules.proofs.Turns.{blocks_in_turn}
use Rattle.cut_rules.proofs.Codes.{readable_exactly, codes_exactly, refused_leaves}
use Rattle.cut_rules.proofs.Answers.{one_number, bits_say, passes_come, in_order}
use Rattle.cut_rules.proofs.Logs.{checker_says, still_differs, each_needed, written}
use Rattle.cut_rules.proofs.Writable.{selections_written}

pub theorems : Theorems
theorems =
    record {
      blocks_in_turn = blocks_in_turn;
      readable_exactly = readable_exactly;
      codes_exactly = codes_exactly;
      refused_leaves = refused_leaves;
      one_number = one_number;
      bits_say = bits_say;
      passes_end = passes_come;
      old_order = in_order;
      checker_says = checker_says;
      still_differs = still_differs;
      each_needed = each_needed;
      written = written;
      selections_written = selections_written;
    }
