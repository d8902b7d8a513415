use Rattle.scope_core.proofs
use proofs.Words.{arith, is_of_node, same_decides}
use proofs.Calls.{added_change, added_covered, all_or_none, counted_own}
use proofs.Indexed.{added_named}
use proofs.Kept.{changed_listed}
use proofs.table.ScopeTable.join_remote.Goals as goal

pub join-requires-clause-list : goal.join-requires-clause-list
join-requires-clause-list c =
    counted_own c.args.peer.now c.args.rows.now c.requires c.in_ok-counted.counted.items
    c.in_ok-counted.ensures.added c.in_ok-counted.ensures.kept

pub join-requires-clause-few : goal.join-requires-clause-few
join-requires-clause-few c =
    let n = c.args.peer.now in
    grind (
      arith,
      all_or_none n c.args.rows.now c.requires n,
      c.in_ok-counted.ensures.added (is_of_node n),
      same_decides,
    )

pub join-requires-clause-changes : goal.join-requires-clause-changes
join-requires-clause-changes c =
    let told = rw c.deref.ensures.value at c.in_ok-changes.ensures in
    rw c.deref-2.ensures.value (added_covered c.args.peer.now c.in_ok-counted.counted.items _ told)

pub join-requires-clause-named : goal.join-requires-clause-named
join-requires-clause-named c =
    let list = counted_own c.args.peer.now c.args.rows.now c.requires c.in_ok-counted.counted.items
    c.in_ok-counted.ensures.added c.in_ok-counted.ensures.kept in
    let told = rw c.deref.ensures.value at c.in_ok-changes.ensures in
    rw c.deref-2.ensures.value
    (added_named c.args.peer.now c.in_ok-counted.counted.items _ list.own told)

pub returns-clause-change : goal.returns-clause-change
returns-clause-change c =
    let told = rw c.deref.ensures.value at c.in_ok-changes.ensures in
    rw (← c.self.view_is)
    (added_change c.args.rows.now c.self.inside.rows c.in_ok-counted.counted.items c.join.new.self
    c.in_ok-changes.changes.items told c.in_ok-counted.ensures.added c.in_ok-join.ensures.ok)

pub invariant_of-self-2 : goal.invariant_of-self-2
invariant_of-self-2 c =
    let own = c.self.inside.own in
    let told = rw c.deref.ensures.value at c.in_ok-changes.ensures in
    let share = all_or_none c.args.peer.now c.args.rows.now c.requires own in
    record {
      few = grind (arith, same_decides c.args.peer.now own);
      total = grind (
        arith,
        c.in_ok-counted.ensures.added (is_of_node own),
        c.in_ok-join.ensures.ok (is_of_node own),
      );
      listed = changed_listed c.self.inside.listings c.forget_changed.new.self _ _
          c.self.invariant.listed c.in_ok-changes.changes.items
          (rw c.deref-3.ensures.value at c.forget_changed.ensures)
          (added_change c.args.rows.now c.self.inside.rows c.in_ok-counted.counted.items
          c.join.new.self c.in_ok-changes.changes.items told c.in_ok-counted.ensures.added
          c.in_ok-join.ensures.ok);
    }
