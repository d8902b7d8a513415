use Rattle.scope_core.proofs
use proofs.Words.{ap, arith, is_row, NodeTable, stands, sym, tally, ◌∙◌, ◌≡◌}
use proofs.HashedRows.{count_is, own_at, stands_is}
use Rattle.scope_core.proofs.hashed_rows.HashedRows.raise.Goals.{After-get-count}
use proofs.hashed_rows.HashedRows.raise.Goals as goal

pub get-count-requires : goal.get-count-requires
get-count-requires c =
    let row = c.args.row.now in
    let es = c.self.inside.counts.entries in
    own_at _ row es c.self.invariant.own
    (sym (stands_is row es) ∙ ap (λ (t : NodeTable). stands row t.rows) c.self.view_is
    ∙ c.requires.stands)

-- it is counted as the map has it
count : (c : After-get-count) → c.get-count.result
    ≡ tally (is_row c.args.row.now.group c.args.row.now.pid) c.args.self.now.rows
count c = rw (← c.self.view_is) (grind (arith, count_is))

pub returns-clause-tallies : goal.returns-clause-tallies
returns-clause-tallies c = λ test.
    let is = count (goal.at.returns-clause-tallies c).After-get-count in
    grind (arith, c.set.ensures.tallies test)

pub overflow_add-count : goal.overflow_add-count
overflow_add-count c = omega (arith, count)
