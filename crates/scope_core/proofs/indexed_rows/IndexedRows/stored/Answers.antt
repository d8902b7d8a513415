use Rattle.scope_core.proofs
use proofs.Words.{arith}
use proofs.Outcomes.{none_weaker}
use proofs.Indexed.{member_named}
use proofs.indexed_rows.IndexedRows.stored.Goals as goal

pub returns-clause-none : goal.returns-clause-none
returns-clause-none c = none_weaker c.stored.result (λ none p.
    let rows = c.self.inside.lists in
    let seen = member_named c.args.group.now p rows _ (c.self.invariant c.args.group.now p.node) in
    rw (← c.self.view_is) (grind (arith, seen, none p.node))) c.stored.ensures.none
