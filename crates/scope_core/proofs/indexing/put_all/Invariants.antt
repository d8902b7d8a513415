use Rattle.scope_core.proofs
use proofs.Words.{cond, is_named, List, same, take, times_named, ℕ, ◌&&◌, ◌≡◌}
use proofs.indexing.put_all.Given as goal

-- the node is one of each so far
abbrev pub invariant-loop-change : goal.invariant-loop-change
invariant-loop-change l = (g n : List ℕ) → times_named l.index g n
    ≡ cond (same l.node n && is_named g (take l.change-index l.changes)) 1
    (times_named l.fn.index g n)
