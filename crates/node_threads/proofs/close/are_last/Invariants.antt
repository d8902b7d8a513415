use Rattle.std.proofs.Common.{length, ◌↔◌, ◌≡◌, ◌≤◌}
use Rattle.node_threads.specs.Closing.{AreLast, kept_entries}
use Rattle.node_threads.proofs.Walked.{up_to}
use Rattle.node_threads.proofs.close.are_last.Given as goal

-- the calls are the last ones exactly where those that are left are the last of the entries that
-- are
-- left
abbrev pub invariant-loop-entry : goal.invariant-loop-entry
invariant-loop-entry l =
    (length l.left ≡ 256) × (l.number ≤ length l.audit.entries)
    × (AreLast l.seats l.fn.left (kept_entries l.audit.forgotten l.audit.entries) ↔ AreLast l.seats
    l.left (up_to l.audit.forgotten l.number l.audit.entries))

abbrev pub decreases-loop-entry : goal.decreases-loop-entry
decreases-loop-entry l = l.number
