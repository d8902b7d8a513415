use Rattle.scope_core.proofs
use proofs.Words.{take, ◌++◌, ◌≡◌}
use proofs.hashed_rows.HashedRows.put_new.Given as goal

-- those of the list so far stand behind the rows that were there
abbrev pub invariant-loop-counted : goal.invariant-loop-counted
invariant-loop-counted l = (l.fresh ≡ l.counted-index) × (l.self.node ≡ l.initial.self.node)
    × (l.self.rows ≡ l.initial.self.rows ++ take l.fresh l.more)
