use Rattle.scope_core.proofs
use proofs.Words.{AllByRecursion, List, Row, ◌++◌, ◌≡◌}
use proofs.GroupRows.{SortedMembers}
use proofs.GroupIndex.{repeated}
use proofs.hashed_rows.HashedRows.are_just.Given as goal

-- once those of the groups to come stand before the rest, all stand before it
abbrev pub invariant-loop-group : goal.invariant-loop-group
invariant-loop-group l =
    let node = l.self.node in
    let all = l.initial.group-iterator in
    AllByRecursion (λ r. r.pid.node ≡ node) l.rest
    × ((xs : List Row) → l.rest ≡ repeated node l.group-iterator ++ xs
    → l.rows ≡ repeated node all ++ xs)
    × (AllByRecursion SortedMembers l.group-iterator → AllByRecursion SortedMembers all)
