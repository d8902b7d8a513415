use Rattle.dist_types.proofs
use Rattle.dist_types.specs
use specs.Order.{pid_cmp, row_cmp}
use specs.Listing.{same_pid, same_row}
use proofs.Orders.{exact_pids, exact_rows, pids_total, rows_total, same_pid_decides}
use proofs.Orders.{same_row_decides}
use proofs.Listings.{listing_is}
use proofs.laws.listing_of_named.Goals as goal

pub returns-clause-pids : goal.returns-clause-pids
returns-clause-pids c = listing_is pid_cmp same_pid pids_total exact_pids same_pid_decides

pub returns-clause-rows : goal.returns-clause-rows
returns-clause-rows c = λ count. listing_is row_cmp same_row rows_total exact_rows same_row_decides
    (λ r. count r.group r.pid)
