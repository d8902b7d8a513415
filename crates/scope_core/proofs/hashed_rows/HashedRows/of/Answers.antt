use Rattle.scope_core.proofs
use proofs.Words.{ap, counted_in, NodeCounts, ◌∙◌}
use proofs.RowEntries.{back_again, hashed_of}
use proofs.hashed_rows.HashedRows.of.Goals as goal
use Rattle.scope_core.proofs.hashed_rows.HashedRows.of.Goals.{then-by_process+in_ok-processes_of}
use Rattle.scope_core.proofs.hashed_rows.HashedRows.of.Goals.{else-by_process}

pub invariant_of-result : goal.invariant_of-result
invariant_of-result c =
    let node = c.args.node in
    let by_group = rw c.deref.ensures.value at c.in_ok-groups.ensures in
    rw (ap (λ (t : NodeCounts). t.node) c.in_ok-of.ensures)
    (hashed_of node c.args.rows.items c.in_ok-of.field-0.entries c.in_ok-groups.groups
    _ c.requires.own c.requires.rises
    (ap (λ (t : NodeCounts). t.entries) c.in_ok-of.ensures)
    (by_group node c.requires.own) (elim c.if-by_process.branch [
      | then-by_process+in_ok-processes_of w ↦
          let all = rw w.deref-then-by_process.ensures.value at w.in_ok-processes_of.ensures in
          rw w.processes-is (all node c.requires.own)
      | else-by_process w ↦ rw w.processes-is tt
    ]))

pub returns : goal.returns
returns c =
    let rows = ap (λ (t : NodeCounts). counted_in t.entries) c.in_ok-of.ensures
    ∙ back_again c.args.rows.items in
    λ i. record { node = (c.in_ok-of.ensures i).node; rows = rows i }
