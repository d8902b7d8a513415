use Rattle.scope_core.proofs
use proofs.Words.{arith, IsPidListing, local_count, same_sym, Table}
use proofs.Calls.{length-part}
use proofs.table.ScopeTable.local_members.Goals.{In_ok-push_members}
use proofs.table.ScopeTable.local_members.Goals as goal

abbrev the_table : (c : In_ok-push_members) → Table
the_table c = record { own = c.self.inside.own; rows = c.self.inside.rows }

own_listing : (c : In_ok-push_members)
    → IsPidListing (local_count (the_table c) c.args.group.now) c.push_members.new.pids.items
own_listing c = grind (arith, same_sym)

pub returns-clause-limits : goal.returns-clause-limits
returns-clause-limits c = rw (← c.self.view_is)
    (length-part (the_table c) c.args.group.now c.push_members.new.pids.items
    (λ p. let is = (own_listing c).counts p in omega arith))
