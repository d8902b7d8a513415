use Rattle.scope_core.proofs
use proofs.Words.{drop, group_rows, ◌++◌, ◌≡◌}
use proofs.group_members.push_few_counted.Given as goal

-- with those of the entries to come, all are there
abbrev pub invariant-loop-key : goal.invariant-loop-key
invariant-loop-key l = l.rows.items ++ group_rows l.node l.group (drop l.key-index l.members)
    ≡ l.fn.rows.items ++ group_rows l.node l.group l.members
