use Rattle.scope_core.proofs
use proofs.Words.{AllByRecursion, entries_of, List, pid_of, Row, row_in, spread, ℕ, ◌++◌, ◌≡◌}
use proofs.group_members.behind_all.Given as goal

-- once those of the entries to come stand before the rest, all stand before it
abbrev pub invariant-loop-key : goal.invariant-loop-key
invariant-loop-key l = (node : List ℕ) → AllByRecursion (λ r. r.pid.node ≡ node) l.rows
    → AllByRecursion (λ r. r.pid.node ≡ node) l.rest × ((xs : List Row)
    → l.rest ≡ spread (λ e. row_in l.group (pid_of node e.0)) (λ e. e.1) l.key-iterator ++ xs
    → l.rows ≡ spread (λ e. row_in l.group (pid_of node e.0)) (λ e. e.1) (entries_of l.members)
    ++ xs)
