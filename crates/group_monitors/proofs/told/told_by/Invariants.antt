use Rattle.group_monitors.proofs.Words.{flat_map, target, updates_of, ◌++◌, ◌≡◌}
use Rattle.group_monitors.proofs.told.told_by.Given as goal

-- the updates so far, with those of the entries that are left
abbrev pub invariant-loop-entry : goal.invariant-loop-entry
invariant-loop-entry l =
    (goal.iterator-loop-entry).can_next l.entry-iterator
    × (goal.iterator-loop-entry).is_finite l.entry-iterator
    × (l.updates.items ++ flat_map (λ e. updates_of (target l.monitor) e.change) l.entry-iterator
    ≡ flat_map (λ e. updates_of (target l.monitor) e.change) l.fn.entries)
