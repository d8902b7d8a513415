use Rattle.scope_core.proofs
use proofs.Words.{AllByRecursion, ◌++◌, ◌≡◌}
use proofs.GroupRows.{flat, SortedMembers}
use proofs.hashed_rows.HashedRows.in_order.Given as goal

-- with the groups to come, all rows are there; and where those are in order, all are
abbrev pub invariant-loop-group : goal.invariant-loop-group
invariant-loop-group l =
    let node = l.self-inside.counts.node in
    let all = l.self-inside.groups.entries in
    (l.rows.items ++ flat node l.group-iterator ≡ flat node all)
    × (AllByRecursion SortedMembers l.group-iterator → AllByRecursion SortedMembers all)
