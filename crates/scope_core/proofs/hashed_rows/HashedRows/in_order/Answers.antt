use Rattle.scope_core.proofs
use proofs.Words.{AllByRecursion, ap, append-nil, is_row, subst, sym, tally, ◌++◌, ◌∙◌}
use proofs.GroupRows.{flat, flat_rises, SortedMembers}
use proofs.GroupIndex.{index_tally}
use proofs.hashed_rows.HashedRows.in_order.Goals as goal

pub returns-clause-rises : goal.returns-clause-rises
returns-clause-rises c =
    let table = c.self.inside in
    let rows = c.loop-group.rows.items in
    let done = c.in-None.ensures.steps.0 in
    let sorted = c.loop-group.invariant.1 (rw done tt) in
    let ended = sym (append-nil rows) ∙ ap (λ i. rows ++ flat table.counts.node i) (sym done) in
    let ordered = c.iter-group-items.ensures.ordered in
    let all = flat_rises table.counts.node table.groups.entries ordered sorted in
    rw (ended ∙ c.loop-group.invariant.0) all

pub returns-clause-counts : goal.returns-clause-counts
returns-clause-counts c = λ g p.
    let table = c.self.inside in
    let rows = c.loop-group.rows.items in
    let done = c.in-None.ensures.steps.0 in
    let sorted = c.loop-group.invariant.1 (subst (AllByRecursion SortedMembers) (sym done) tt) in
    let ended = sym (append-nil rows) ∙ ap (λ i. rows ++ flat table.counts.node i) (sym done) in
    rw (← c.self.view_is) (ap (tally (is_row g p)) (ended ∙ c.loop-group.invariant.0)
    ∙ index_tally table.counts.node table.counts.entries table.groups table.processes
    c.self.invariant c.iter-group-items.ensures.ordered sorted g p)
