use Rattle.scope_core.proofs
use proofs.Words.{drop, heads, last_of, None, ◌++◌, ◌≡◌}
use proofs.reads.groups_of.Given as goal

-- the groups so far, and those of the rows to come, are all
abbrev pub invariant-loop-counted : goal.invariant-loop-counted
invariant-loop-counted l =
    l.groups.items ++ heads (last_of l.groups.items) (drop l.counted-index l.rows)
    ≡ heads None l.rows
