use Rattle.scope_core.proofs
use proofs.Words.{arith, is_of_node}
use proofs.Counting.{sorted_as_many}
use proofs.incoming.counted_rows.Goals as goal

pub counted_in_order-requires-2 : goal.counted_in_order-requires-2
counted_in_order-requires-2 c = rw c.deref.ensures.value (λ node.
    let same = sorted_as_many (is_of_node node) c.args.rows.now c.in_ok-sorted.sorted.items
    c.in_ok-sorted.ensures in
    omega (arith, c.requires node))

pub returns-in-Some-2-clause-added : goal.returns-in-Some-2-clause-added
returns-in-Some-2-clause-added c = λ test.
    let all = rw (c.in-Some-2.is, c.deref.ensures.value) at c.in_ok-counted-2.ensures.added in
    let same = sorted_as_many test c.args.rows.now c.in_ok-sorted.sorted.items
    c.in_ok-sorted.ensures in
    omega (arith, all test)
