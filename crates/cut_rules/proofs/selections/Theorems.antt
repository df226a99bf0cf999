-- All statements of specs/selections/Claims.antt.
use Rattle.cut_rules.specs.selections.Claims.{Theorems}
use Rattle.cut_rules.proofs.selections.Words.{word_bit, word_below, word_alone, word_some}
use Rattle.cut_rules.proofs.selections.Chosen.{chosen_length, old_order, leaves_one}
use Rattle.cut_rules.proofs.selections.Results.{passes_end, end_alone, any_bound, pass_leaves, result_length, still_differs, each_needed, answer_some, cuts_list}

pub theorems : Theorems
theorems =
    record {
      passes_end = passes_end;
      end_alone = end_alone;
      any_bound = any_bound;
      pass_leaves = pass_leaves;
      result_length = result_length;
      still_differs = still_differs;
      each_needed = each_needed;
      word_bit = word_bit;
      word_below = word_below;
      word_alone = word_alone;
      word_some = word_some;
      answer_some = answer_some;
      chosen_length = chosen_length;
      old_order = old_order;
      leaves_one = leaves_one;
      cuts_list = cuts_list;
    }
