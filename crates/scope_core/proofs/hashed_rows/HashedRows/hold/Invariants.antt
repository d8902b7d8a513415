use Rattle.scope_core.proofs
use proofs.Words.{Bool, length, Row, stands, take, tally, ◌||◌, ◌≡◌, ◌≤◌}
use proofs.hashed_rows.HashedRows.hold.Given as goal

-- the first rows are those that were there, and those of the list so far stand behind them
abbrev pub invariant-loop-counted : goal.invariant-loop-counted
invariant-loop-counted l =
    (take l.len l.self.rows ≡ l.initial.self.rows) × (l.len ≤ length l.self.rows)
    × (l.self.node ≡ l.initial.self.node)
    × ((test : Row → Bool) → tally test l.self.rows ≡ tally test l.initial.self.rows)
    × ((r : Row) → stands r l.self.rows
    ≡ (stands r l.initial.self.rows || stands r (take l.counted-index l.more)))
