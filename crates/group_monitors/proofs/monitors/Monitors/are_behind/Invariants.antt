use Rattle.std.proofs.Common.{nat_le, ◌≡◌}
use Rattle.std.specs.List.{list_all}
use Rattle.group_monitors.specs.declared.monitor.Monitor.{Monitor}
use Rattle.group_monitors.proofs.monitors.Monitors.are_behind.Given as goal

-- all are behind exactly where those are that are left
abbrev pub invariant-loop-monitor : goal.invariant-loop-monitor
invariant-loop-monitor l =
    (goal.iterator-loop-monitor).can_next l.monitor-iterator
    × (goal.iterator-loop-monitor).is_finite l.monitor-iterator
    × (list_all (λ m. nat_le l.fn.number m.1.place) l.fn.self
    ≡ list_all (λ (m : Monitor). nat_le l.fn.number m.place) l.monitor-iterator)
