use Rattle.node_core.proofs
use proofs.Words.{arith, count_of, IsDifference, refl, subst}
use proofs.Said.{join_fault}
use proofs.membership.join_one.Goals as goal

pub returns-in-Ok-clause-joined : goal.returns-in-Ok-clause-joined
returns-in-Ok-clause-joined c = record {
  scope = refl;
  heard = refl;
  told = refl;
  rows = c.in-Ok.ensures.ok;
  change = record {
    groups = c.in-Ok.groups.items;
    difference =
        subst (λ f. IsDifference (count_of c.args.running.now.table) f c.in-Ok.groups.items)
        (λ i g p. c.in-Ok.ensures.ok.counts g p i) c.in-Ok.ensures.change;
    changes = rw (c.filled.ensures, c.in_ok-room.ensures, c.in_ok-try_clone.ensures) refl;
  };
}

pub returns-in-Err-clause-refused : goal.returns-in-Err-clause-refused
returns-in-Err-clause-refused c = rw c.fault_of.ensures
    (join_fault c.args.running.now.table c.args.pids.now c.args.limit c.in-Err.fault
    c.in-Err.ensures.refused)

pub returns-in-Err-clause-same : goal.returns-in-Err-clause-same
returns-in-Err-clause-same c = grind (arith, c.in-Err.ensures.same)
