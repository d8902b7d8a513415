use Rattle.group_monitors.proofs.Words.{take, target, updates_of, ◌++◌, ◌≡◌}
use Rattle.group_monitors.proofs.told.tell_changes.Given as goal

-- the updates so far
abbrev pub invariant-loop-change : goal.invariant-loop-change
invariant-loop-change l = l.updates.items ≡ l.fn.updates.items ++ updates_of (target l.monitor)
    (take l.change-index l.changes)
