use Rattle.scope_core.proofs
use proofs.Words.{arith, ◌∙◌}
use proofs.Found.{sought_at, sought_first, sought_next}
use proofs.node_indexes.group_of.Goals as goal

pub loop-group-init : goal.loop-group-init
loop-group-init c =
    rw (c.into_iter-group-iterator.ensures.into_iter_gives ∙ c.iter-group-items.ensures.rest)
    (sought_first c.args.groups.now c.args.key.now c.iter-group-items.ensures.ordered)

pub returns-then-is_some-clause-found : goal.returns-then-is_some-clause-found
returns-then-is_some-clause-found c =
    let was = rw c.in-Some.ensures.steps at c.loop-group.invariant in
    sought_at c.args.groups.now c.args.key.now _ c.next.new.self (grind arith) was

pub loop-group-preserved : goal.loop-group-preserved
loop-group-preserved c =
    let was = rw c.in-Some.ensures.steps at c.loop-group.invariant in
    sought_next c.args.groups.now c.args.key.now _ c.next.new.self (grind arith) was
