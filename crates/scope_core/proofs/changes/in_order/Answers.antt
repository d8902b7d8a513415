use Rattle.scope_core.proofs
use proofs.Words
use Words.{arith, IsPidListing, mentions, pid_cmp, pids_total, same_pid, sorted_listing, subst}
use proofs.Shares.{short_listing}
use proofs.changes.in_order.Goals as goal

pub returns-then-len-lt2 : goal.returns-then-len-lt2
returns-then-len-lt2 c = subst (λ ps. IsPidListing (λ p. mentions p ps) c.in_ok-copies.copies.items)
    c.in_ok-copies.ensures (short_listing pid_cmp same_pid _ (omega arith))

pub returns : goal.returns
returns c = subst (λ ps. IsPidListing (λ p. mentions p ps) c.sort_unstable.new.self.items)
    c.in_ok-copies.ensures
    (sorted_listing pid_cmp same_pid pids_total _ _ c.sort_unstable.ensures.permutation
    c.sort_unstable.ensures.sorted)
