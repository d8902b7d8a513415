use Rattle.node_core.proofs
use proofs.Words.{arith, history, rules}
use Rattle.group_monitors.proofs.Reached.{reach_start}
use proofs.Anew.{begun}
use proofs.node.NodeCore.new.Goals as goal

pub invariant_of-result : goal.invariant_of-result
invariant_of-result c = record {
  within = c.new-audit.ensures.limit;
  legal = rw c.new-audit.ensures.empty.0 tt;
  had = (let none = c.new-audit.ensures.empty.1 in omega arith);
  reach = rw (c.new-audit.ensures.empty.0, c.new-audit.ensures.empty.1) reach_start;
  follows = rw (
    c.new-audit.ensures.empty.0,
    c.in_ok-admission.ensures,
    c.new.ensures,
    c.new-2.ensures.items,
    c.new-3.ensures.items,
    c.new-4.ensures,
  )
      (begun c.args.opening (search rules) (search rules));
}

pub returns-clause-ok : goal.returns-clause-ok
returns-clause-ok c =
    let empty = c.new-audit.ensures.empty in
    λ i. record { history = history c.args.opening (empty.0 i); forgotten = empty.1 i }
