-- All that is claimed of logs when the rules change, proved.
use Rattle.consequences.specs.policies.Claims.{Theorems}
use Rattle.consequences.proofs.policies.Differs.{differs_at_first}
use Rattle.consequences.proofs.policies.Change.{after_change, after_rounding, after_total, since_document01}
use Rattle.consequences.proofs.policies.Marks.{written_before, other_mark_in_log, setting_refused}
use Rattle.consequences.proofs.policies.OldLimits.{old_limits}

pub theorems : Theorems
theorems =
    record {
      differs_at_first = differs_at_first;
      after_change = after_change;
      after_rounding = after_rounding;
      after_total = after_total;
      since_document01 = since_document01;
      written_before = written_before;
      other_mark_in_log = other_mark_in_log;
      setting_refused = setting_refused;
      old_limits_on_logs = old_limits;
    }
