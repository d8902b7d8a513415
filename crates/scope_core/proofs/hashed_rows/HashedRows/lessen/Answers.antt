use Rattle.scope_core.proofs
use proofs.Words.{ap, arith, is_row, NodeTable, stands, sym, tally, ◌<◌, ◌∙◌, ◌≡◌}
use proofs.HashedRows.{count_is, own_at, rows_equal, stands_is}
use proofs.HashedWrites.{row_there, tally_stands}
use Rattle.scope_core.proofs.hashed_rows.HashedRows.lessen.Goals.{After-get-count, After-self}
use proofs.hashed_rows.HashedRows.lessen.Goals as goal

own : (c : After-self) → c.args.gone.now.row.pid.node ≡ c.self.inside.counts.node
own c =
    let row = c.args.gone.now.row in
    let es = c.self.inside.counts.entries in
    let there = tally_stands row c.args.self.now.rows (omega arith) in
    own_at _ row es c.self.invariant.own
    (sym (stands_is row es) ∙ ap (λ (t : NodeTable). stands row t.rows) c.self.view_is ∙ there)

pub get-count-requires : goal.get-count-requires
get-count-requires c = own (goal.at.get-count-requires c).After-self

pub set-requires : goal.set-requires
set-requires c = tally_stands c.args.gone.now.row c.args.self.now.rows (omega arith)

pub remove-requires : goal.remove-requires
remove-requires c =
    own (goal.at.remove-requires c).After-self ∙ ap (λ (t : NodeTable). t.node) c.self.view_is

-- it is counted as the map has it
count : (c : After-get-count) → c.get-count.result
    ≡ tally (is_row c.args.gone.now.row.group c.args.gone.now.row.pid) c.args.self.now.rows
count c = rw (← c.self.view_is) (grind (arith, count_is))

pub returns-then-count-gone-clause-taken : goal.returns-then-count-gone-clause-taken
returns-then-count-gone-clause-taken c = λ test.
    let is = count (goal.at.returns-then-count-gone-clause-taken c).After-get-count in
    grind (arith, c.set.ensures.tallies test)

pub returns-clause-taken : goal.returns-clause-taken
returns-clause-taken c = λ test.
    let is = count (goal.at.returns-clause-taken c).After-get-count in
    grind (arith, c.remove.ensures.tallies test)

pub returns-then-count-gone-clause-last : goal.returns-then-count-gone-clause-last
returns-then-count-gone-clause-last c = λ counted.
    let row = c.args.gone.now.row in
    let at = goal.at.returns-then-count-gone-clause-last c in
    let node = own at.After-self ∙ ap (λ (t : NodeTable). t.node) c.self.view_is
    ∙ sym c.set.ensures.node in
    let set = c.set.ensures.tallies (is_row row.group row.pid) in
    let some : 0 < tally (is_row row.group row.pid) c.set.new.self.rows =
    grind (arith, count, rows_equal.refl row) in
    let there = row_there row.group _ row.pid _ node some in
    grind arith
