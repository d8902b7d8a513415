use Rattle.scope_core.proofs
use proofs.Words.{AllByRecursion, ◌++◌, ◌≡◌}
use proofs.GroupRows.{SortedMembers}
use proofs.GroupIndex.{all_gone}
use proofs.hashed_rows.HashedRows.all_left.Given as goal

-- with those of the groups to come, all changes are there
abbrev pub invariant-loop-group : goal.invariant-loop-group
invariant-loop-group l =
    let node = l.self-inside.counts.node in
    let all = l.self-inside.groups.entries in
    (l.changes.items ++ all_gone node l.group-iterator ≡ all_gone node all)
    × (AllByRecursion SortedMembers l.group-iterator → AllByRecursion SortedMembers all)
