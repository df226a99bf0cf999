-- All statements of specs/Claims.antt.
use Rattle.probe_rules.specs.Claims.{Theorems}
use Rattle.probe_rules.proofs.Refusals.{refused_exactly, refused_leaves}
use Rattle.probe_rules.proofs.Answers.{answers_least, no_fit_exactly, empty_fit}
use Rattle.probe_rules.proofs.Records.{only_records, same_word_lem}
use Rattle.probe_rules.proofs.Closed.{closed_form}

pub theorems : Theorems
theorems =
    record {
      refused_exactly = refused_exactly;
      refused_leaves = refused_leaves;
      answers_least = answers_least;
      no_fit_exactly = no_fit_exactly;
      empty_fit = empty_fit;
      only_records = only_records;
      same_word = same_word_lem;
      closed_form = closed_form;
    }
