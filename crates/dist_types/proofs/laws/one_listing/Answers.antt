use Rattle.dist_types.proofs
use Rattle.dist_types.specs
use specs.Order.{pid_cmp, row_cmp}
use specs.Listing.{same_pid, same_row}
use proofs.Orders.{exact_pids, exact_rows, pids_total, rows_total, same_pid_decides}
use proofs.Orders.{same_row_decides}
use proofs.Listings.{one_listing}
use proofs.GroupListings.{one_group_listing}
use proofs.laws.one_listing.Goals as goal

pub returns-clause-pids : goal.returns-clause-pids
returns-clause-pids c = one_listing pid_cmp same_pid pids_total exact_pids same_pid_decides

pub returns-clause-rows : goal.returns-clause-rows
returns-clause-rows c = λ count. one_listing row_cmp same_row rows_total exact_rows same_row_decides
    (λ r. count r.group r.pid)

pub returns-clause-groups : goal.returns-clause-groups
returns-clause-groups c = one_group_listing
