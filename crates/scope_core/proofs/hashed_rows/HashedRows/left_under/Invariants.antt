use Rattle.scope_core.proofs
use proofs.Words.{changes_left_by, keys_of, ◌++◌, ◌≡◌}
use proofs.hashed_rows.HashedRows.left_under.Given as goal

-- with those of the groups to come, all changes are there
abbrev pub invariant-loop-group : goal.invariant-loop-group
invariant-loop-group g l =
    let rows = l.fn.self.rows in
    l.changes.items ++ changes_left_by rows l.pid (keys_of l.group-iterator)
    ≡ changes_left_by rows l.pid (keys_of l.groups.entries)
