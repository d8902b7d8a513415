use Rattle.node_core.proofs
use proofs.Words.{IsPidListing, mentions, pid_cmp, pids_total, same_pid, subst, take_all, ◌∙◌}
use Rattle.dist_types.proofs.Sorts.{sorted_listing}
use proofs.gathering.ascending.Goals as goal

pub returns : goal.returns
returns c =
    let now = c.sort_unstable.new.self.items in
    let sorted = sorted_listing pid_cmp same_pid pids_total c.loop-pid.listed.items now
    c.sort_unstable.ensures.permutation c.sort_unstable.ensures.sorted in
    subst (λ ps. IsPidListing (λ p. mentions p ps) now)
    (c.loop-pid.invariant ∙ take_all _ _ c.loop-pid-test.false) sorted
