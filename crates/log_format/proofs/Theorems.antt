-- All that is claimed of the verdict and of the encoder, proved.
use Rattle.log_format.specs.Claims.{Theorems}
use Rattle.log_format.proofs.Agrees.{only_if, whenever}
use Rattle.log_format.proofs.Anywhere.{only_if_anywhere, whenever_anywhere}
use Rattle.log_format.proofs.WrittenLog.{written_agrees}
use Rattle.log_format.proofs.Unseen.{left_unseen}
use Rattle.log_format.proofs.Fits.{start_call, record_call, seal_call}

pub theorems : Theorems
theorems =
    record {
      only_if = only_if;
      whenever = whenever;
      only_if_anywhere = only_if_anywhere;
      whenever_anywhere = whenever_anywhere;
      written_agrees = written_agrees;
      calls_write = λ m. record { start = start_call m; put = record_call; seal = seal_call };
      left_unseen = left_unseen;
    }
