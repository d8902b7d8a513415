use Rattle.node_core.proofs.Words.{map, row, rows_left, take, ◌++◌, ◌≡◌}
use Rattle.node_core.proofs.changes.rows_left.Given as goal

-- the rows of the groups so far
abbrev pub invariant-loop-change : goal.invariant-loop-change
invariant-loop-change l = l.rows.items ≡ rows_left (take l.change-index l.groups)

-- and of the processes so far in this group
abbrev pub invariant-loop-pid : goal.invariant-loop-pid
invariant-loop-pid l = l.rows.items ≡ l.initial.rows.items
    ++ map (row l.change.group) (take l.pid-index l.change.left)
