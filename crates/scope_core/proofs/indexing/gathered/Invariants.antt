use Rattle.scope_core.proofs
use proofs.Words
use Words.{Ascends, cond, how_many, is_row, mentions, nat_lt, Pid, pid_cmp, same, take, tally, ◌≡◌}
use proofs.indexing.gathered.Given as goal

-- the processes of the nodes so far, in order
abbrev pub invariant-loop-node : goal.invariant-loop-node
invariant-loop-node l = ((p : Pid) → mentions p l.pids.items
    ≡ cond (nat_lt 0 (how_many (λ m. same m p.node) (take l.node-index l.nodes)))
    (tally (is_row l.group p) l.lists) 0) × Ascends pid_cmp l.pids.items
