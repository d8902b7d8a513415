use Rattle.scope_core.proofs
use proofs.Words.{ap, cond, counted_in, has_row, is_some, lookup, NodeTable, refl, row_at, same_row}
use proofs.Words.{set_value, Some, stands, sym, tally, true, ◌+◌, ◌∙◌, ◌≡◌}
use proofs.HashedRows.{count_is, own_at, set_bare, set_tally, stands_is}
use proofs.HashedWrites.{at_row, hashed_write, named_still, names_as, set_counted}
use Rattle.scope_core.proofs.hashed_rows.HashedRows.set.Goals.{After-self}
use proofs.hashed_rows.HashedRows.set.Goals as goal

-- the row is there
there : (c : After-self) → has_row c.self.inside.counts.entries c.args.row.now ≡ true
there c = sym (stands_is c.args.row.now c.self.inside.counts.entries)
    ∙ ap (λ (t : NodeTable). stands c.args.row.now t.rows) c.self.view_is ∙ c.requires

own : (c : After-self) → c.args.row.now.pid.node ≡ c.self.inside.counts.node
own c = own_at _ c.args.row.now c.self.inside.counts.entries c.self.invariant.own (there c)

pub set-requires-clause-own : goal.set-requires-clause-own
set-requires-clause-own c = own (goal.at.set-requires-clause-own c).After-self

pub set-requires-clause-there : goal.set-requires-clause-there
set-requires-clause-there c = there (goal.at.set-requires-clause-there c).After-self

pub set-requires-2 : goal.set-requires-2
set-requires-2 c =
    let row = c.args.row.now in
    let es = c.self.inside.counts.entries in
    let node = c.self.inside.counts.node in
    let start = (goal.at.set-requires-2 c).After-self in
    let found = c.self.invariant.by_group row.group c.of-key.result
    ∙ (λ i. lookup (same_row (row_at node row.group (c.of-key.ensures i))) es)
    ∙ ap (λ r. lookup (same_row r) es) (at_row node row (own start)) in
    ap is_some found ∙ there start

pub invariant_of-self : goal.invariant_of-self
invariant_of-self c =
    let row = c.args.row.now in
    let start = (goal.at.invariant_of-self c).After-self in
    rw c.set.ensures.node (hashed_write c.self.invariant row (own start) (Some c.args.count)
    _ _ _ c.set.ensures.once c.set.ensures.written (rw c.of-key.ensures at c.set-2.ensures)
    (names_as c.self.inside.processes _ _ (λ k g. named_still c.self.inside.counts.node g k row
    (own start) c.self.inside.counts.entries _ refl (there start)) c.self.invariant.by_process))

pub returns-clause-tallies : goal.returns-clause-tallies
returns-clause-tallies c = λ test.
    let row = c.args.row.now in
    let n = c.args.count in
    let es = c.self.inside.counts.entries in
    rw (← c.self.view_is, c.set.ensures.entries)
    (ap (λ m. tally test (counted_in (set_value (same_row row) es n)) + cond (test row) m 0)
    (count_is row es c.self.invariant.once)
    ∙ set_tally row n es (there (goal.at.returns-clause-tallies c).After-self) test)

pub returns-clause-rows : goal.returns-clause-rows
returns-clause-rows c = rw (← c.self.view_is, c.set.ensures.entries)
    (set_bare c.args.row.now c.args.count c.self.inside.counts.entries)

pub returns-clause-counted : goal.returns-clause-counted
returns-clause-counted c = λ some. rw (← c.self.view_is, c.set.ensures.entries)
    (set_counted c.args.row.now c.args.count c.self.inside.counts.entries some)
