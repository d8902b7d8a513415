use Rattle.scope_core.proofs
use proofs.Words.{length, take, ◌≡◌}
use proofs.hashed_rows.HashedRows.cut.Given as goal

-- the first rows stay
abbrev pub invariant-loop-self : goal.invariant-loop-self
invariant-loop-self l =
    (take l.len l.self.rows ≡ take l.len l.initial.self.rows) × (l.self.node ≡ l.initial.self.node)

abbrev pub decreases-loop-self : goal.decreases-loop-self
decreases-loop-self l = length l.self.rows
