use Rattle.pg_ledger.proofs
use Rattle.std.proofs.Common.{ap, sym, ◌∙◌}
use Rattle.std.specs.List.{insert}
use proofs.Placing.{found_placed, gap_placed, searchable}
use Rattle.pg_ledger.proofs.account.insert.Goals as goal

pub returns-in_ok-insert-clause-ok : goal.returns-in_ok-insert-clause-ok
returns-in_ok-insert-clause-ok g c = λ rises.
    let order = g.met.T.Ord.total in
    let xs = c.args.items.now.items in
    let x = c.args.item.now in
    let i = c.in-Err.place in
    let gap =
    (rw c.deref.ensures.value at c.in-Err.ensures.position) (searchable order x xs rises) in
    c.in_ok-insert.ensures.items ∙ ap (λ y. insert xs i y) c.in_ok-try_clone.ensures
    ∙ sym (gap_placed order x xs i (rw c.deref.ensures.value at c.in-Err.ensures.bound) gap)

pub returns-in_default-clause-ok : goal.returns-in_default-clause-ok
returns-in_default-clause-ok g c = λ rises.
    sym (found_placed g.met.T.Ord.total c.args.item.now c.args.items.now.items c.in_default.field-0
    (rw c.deref.ensures.value at c.in_default.ensures.bound)
    (rw c.deref.ensures.value at c.in_default.ensures.ok) rises)
