use Rattle.scope_core.proofs
use proofs.Words.{AllByRecursion, drop, List, pid_of, Row, row_in, spread, ℕ, ◌++◌, ◌≡◌}
use proofs.group_members.behind_few.Given as goal

-- once those of the entries to come stand before the rest, all stand before it
abbrev pub invariant-loop-member : goal.invariant-loop-member
invariant-loop-member l = (node : List ℕ) → AllByRecursion (λ r. r.pid.node ≡ node) l.rows
    → AllByRecursion (λ r. r.pid.node ≡ node) l.rest × ((xs : List Row)
    → l.rest ≡ spread (λ e. row_in l.group (pid_of node e.0)) (λ e. e.1)
    (drop l.member-index l.members) ++ xs
    → l.rows ≡ spread (λ e. row_in l.group (pid_of node e.0)) (λ e. e.1) l.members ++ xs)
