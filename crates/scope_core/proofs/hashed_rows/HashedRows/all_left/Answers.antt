use Rattle.scope_core.proofs
use proofs.Words.{AllByRecursion, ap, append_assoc, arith, subst, sym, ◌++◌, ◌∙◌}
use proofs.GroupRows.{SortedMembers}
use proofs.GroupIndex.{all_gone, all_leave}
use proofs.hashed_rows.HashedRows.all_left.Goals as goal

pub loop-group-preserved : goal.loop-group-preserved
loop-group-preserved c =
    let node = c.self.inside.counts.node in
    let was = c.loop-group.invariant in
    let steps = c.in-Some.ensures.steps in
    let done = c.loop-group.changes.items in
    let pids = rw (c.node.ensures, c.in_ok-left.ensures.items) at c.in_ok-push_pids.ensures.pids in
    let put = rw (pids, c.new.ensures.items) at c.in_ok-push_change.ensures in (
      ap (λ cs. cs ++ all_gone node c.next.new.self) put
          ∙ append_assoc done _ (all_gone node c.next.new.self)
          ∙ ap (λ i. done ++ all_gone node i) (sym steps) ∙ was.0,
      λ a. was.1 (grind arith),
    )

pub returns : goal.returns
returns c =
    let table = c.self.inside in
    let changes = c.loop-group.changes.items in
    let done = c.in-None.ensures.steps.0 in
    let members = c.loop-group.invariant.1 (subst (AllByRecursion SortedMembers) (sym done) tt) in
    let node = table.counts.node in
    let all = ap (λ i. changes ++ all_gone node i) (sym done) ∙ c.loop-group.invariant.0 in
    rw (← c.self.view_is) (all_leave node table.counts.entries table.groups table.processes
    c.self.invariant c.iter-group-items.ensures.ordered members changes all)
