use Rattle.scope_core.proofs
use proofs.Words.{ap, has_row, None, row_at, rows_at, ◌∙◌}
use proofs.HashedWrites.{last_there}
use proofs.RowCounts.{more_at, once_at, writes_at}
use proofs.row_counts.RowCounts.pop.Goals as goal

pub returns-in_err-row-clause-once : goal.returns-in_err-row-clause-once
returns-in_err-row-clause-once c =
    once_at c.self.inside.node c.pop.new.self.entries c.pop.ensures.unique

pub returns-clause-last : goal.returns-clause-last
returns-clause-last c =
    let node = c.self.inside.node in
    let new = c.pop.new.self.entries in
    let row = c.in_ok-row.row in
    let n = c.in_ok-row.field-0-1 in
    let it = row_at node row.group row.process in
    let all = ap (rows_at node) c.in_ok-row.ensures.entries ∙ more_at node row n new in
    rw (← c.self.view_is) (ap (λ es. has_row es it) all ∙ last_there (rows_at node new) it n)

pub returns-clause-written : goal.returns-clause-written
returns-clause-written c = rw (← c.self.view_is) (writes_at c.self.inside.node c.in_ok-row.row None
    c.self.inside.counts.entries c.pop.new.self.entries c.in_ok-row.ensures.updates.0)

pub returns-clause-once : goal.returns-clause-once
returns-clause-once c = once_at c.self.inside.node c.pop.new.self.entries c.pop.ensures.unique
