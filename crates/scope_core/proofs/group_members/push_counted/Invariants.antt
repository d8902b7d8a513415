use Rattle.scope_core.proofs
use proofs.Words.{entries_of, group_rows, ◌++◌, ◌≡◌}
use proofs.group_members.push_counted.Given as goal

-- with those of the entries to come, all are there
abbrev pub invariant-loop-key : goal.invariant-loop-key
invariant-loop-key l = l.rows.items ++ group_rows l.node l.group l.key-iterator
    ≡ l.fn.rows.items ++ group_rows l.node l.group (entries_of l.members)
