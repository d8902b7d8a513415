-- Rows of a peer that a table follows, or refuses.
use Rattle.node_core.proofs
use proofs.Words.{are_counted, arith, Bool, cond, fault_of, IsChangeIn, IsRowFault, le-leb, length}
use proofs.Words.{List, lt-leb, nat_le, node_total, None, Pid, refl, Row, Rule, Some, Table, true}
use proofs.Words.{ℕ, [], ◌+◌, ◌≡◌, ◌≤◌}
use Rattle.scope_core.specs.Calls.{IsAddFault, IsSyncFault, IsTakeFault}
use Rattle.scope_core.specs.declared.fault.TableFault.{TableFault}

-- where there are few, no rule is broken
pub within : (rows limit : ℕ) → rows ≤ limit
    → cond (nat_le rows limit) None (Some Rule.RowsFull) ≡ None
within rows limit few = rw (le-leb rows limit few)

pub counted : (b : Bool) → b ≡ true → cond b None (Some Rule.NotListed) ≡ None
counted b q = rw q

-- what a table refuses
pub sync_fault : (rows : List Row) (limit : ℕ) (f : TableFault) → IsSyncFault rows limit f
    → IsRowFault (cond (nat_le (length rows) limit) None (Some Rule.RowsFull)) (fault_of f)
sync_fault rows limit TableFault.RowsFull q = rw (lt-leb (length rows) limit q)
sync_fault rows limit TableFault.OutOfMemory q = tt
sync_fault rows limit f q = absurd q

pub add_fault : (t : Table) (n : List ℕ) (rows : List Row) (limit : ℕ) (f : TableFault)
    → IsAddFault t n rows limit f
    → IsRowFault (cond (nat_le (node_total t n + length rows) limit) None (Some Rule.RowsFull))
    (fault_of f)
add_fault t n rows limit TableFault.RowsFull q =
    rw (lt-leb (node_total t n + length rows) limit q)
add_fault t n rows limit TableFault.OutOfMemory q = tt
add_fault t n rows limit f q = absurd q

pub take_fault : (t : Table) (rows : List Row) (f : TableFault) → IsTakeFault t rows f
    → IsRowFault (cond (are_counted t rows) None (Some Rule.NotListed)) (fault_of f)
take_fault t rows TableFault.NotListed q = rw q
take_fault t rows TableFault.OutOfMemory q = tt
take_fault t rows f q = absurd q

-- where counts stay, nothing changes
pub unchanged : (s : List ℕ) (count : List ℕ → Pid → ℕ) → IsChangeIn s count count []
unchanged s count = record {
  groups = [];
  difference = record {
    groups = tt;
    proper = tt;
    left = λ g p. omega arith;
    joined = λ g p. omega arith;
  };
  changes = refl;
}
