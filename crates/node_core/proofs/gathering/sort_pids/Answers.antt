use Rattle.node_core.proofs.Words.{pid_cmp, pids_total, same_pid}
use Rattle.dist_types.proofs.Sorts.{sorted_listing}
use Rattle.node_core.proofs.gathering.sort_pids.Goals as goal

pub returns : goal.returns
returns c =
    let taken = c.take_pids-sorted.result.items in
    let sorted = sorted_listing pid_cmp same_pid pids_total taken c.sort_unstable.new.self.items
    c.sort_unstable.ensures.permutation c.sort_unstable.ensures.sorted in
    rw (c.of.ensures, ← c.take_pids-sorted.ensures) sorted
