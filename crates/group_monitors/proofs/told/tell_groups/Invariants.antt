use Rattle.group_monitors.proofs
use proofs.Words.{cond, flat_map, group_updates, is_watched, take, [], ◌++◌, ◌≡◌}
use Rattle.group_monitors.proofs.told.tell_groups.Given as goal

-- the updates so far
abbrev pub invariant-loop-change : goal.invariant-loop-change
invariant-loop-change l = l.updates.items ≡ l.fn.updates.items ++ flat_map
    (λ c. cond (is_watched l.watched c) (group_updates c) []) (take l.change-index l.changes)
