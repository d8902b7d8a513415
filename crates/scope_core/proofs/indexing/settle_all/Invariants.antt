use Rattle.scope_core.proofs
use proofs.Words.{cond, has_members, is_named, List, not, same, take, times_named, ℕ, ◌&&◌, ◌≡◌}
use proofs.indexing.settle_all.Given as goal

-- those so far are settled
abbrev pub invariant-loop-change : goal.invariant-loop-change
invariant-loop-change l = (g n : List ℕ) → times_named l.index g n
    ≡ cond ((is_named g (take l.change-index l.changes) && same l.node n)
    && not (has_members g n l.lists)) 0 (times_named l.fn.index g n)
