-- The claims of specs/order/Claims.antt, all proved.
use Rattle.consequences.specs.order.Claims.{Theorems}
use Rattle.consequences.proofs.order.Group.{order_plays_no_part, estimates_alike, permuted_is_same, permuted_alike}
use Rattle.consequences.proofs.order.Filters.{counted_in_filters, estimate_of_filter}
use Rattle.consequences.proofs.order.Calls.{filled_by_calls, filled_from_turn, filled_over, same_contents, same_estimates}
use Rattle.consequences.proofs.order.Program.{filled_for_c}

pub theorems : Theorems
theorems =
    record {
      order_plays_no_part = order_plays_no_part;
      estimates_alike = estimates_alike;
      permuted_is_same = permuted_is_same;
      permuted_alike = permuted_alike;
      counted_in_filters = counted_in_filters;
      estimate_of_filter = estimate_of_filter;
      filled_by_calls = filled_by_calls;
      filled_from_turn = filled_from_turn;
      filled_over = filled_over;
      filled_for_c = filled_for_c;
      same_contents = same_contents;
      same_estimates = same_estimates;
    }
