use Rattle.scope_core.proofs
use proofs.Words.{count_of, false, length, List, Pid, same_pid, ℕ, ◌≡◌}
use Rattle.scope_core.proofs.table.ScopeTable.exit.Given as goal

-- the rows of other processes stay
abbrev pub invariant-loop : goal.invariant-loop
invariant-loop l = record {
  own : l.self.own ≡ l.fn.self.own;
  others : (g : List ℕ) (p : Pid) → same_pid p l.pid ≡ false
      → count_of l.self g p ≡ count_of l.fn.self g p;
}

abbrev pub decreases-loop : goal.decreases-loop
decreases-loop l = length l.self.rows
