use Rattle.scope_core.proofs
use proofs.Words.{changes_left_by, drop, keys_of, ◌++◌, ◌≡◌}
use proofs.hashed_rows.HashedRows.left_among.Given as goal

-- with those of the groups to come, all changes are there
abbrev pub invariant-loop-group : goal.invariant-loop-group
invariant-loop-group l =
    let rows = l.fn.self.rows in
    l.changes.items ++ changes_left_by rows l.pid (keys_of (drop l.group-index l.groups))
    ≡ changes_left_by rows l.pid (keys_of l.groups)
