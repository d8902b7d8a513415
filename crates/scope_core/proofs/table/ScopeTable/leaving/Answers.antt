use Rattle.scope_core.proofs
use proofs.Words.{Table}
use proofs.Calls.{leaving_few, leaving_listing}
use proofs.table.ScopeTable.leaving.Goals as goal

pub returns-clause-value : goal.returns-clause-value
returns-clause-value c = rw (← c.self.view_is)
    (leaving_listing _ _ _ _ (rw (← c.self.view_is) at c.requires) c.in_ok-gone.ensures)

pub returns-clause-limits : goal.returns-clause-limits
returns-clause-limits c =
    let t : Table = record { own = c.self.inside.own; rows = c.self.inside.rows } in
    rw (← c.self.view_is)
    (leaving_few t _ _ _ (rw (← c.self.view_is) at c.requires) c.in_ok-gone.ensures)
