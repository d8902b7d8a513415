use Rattle.scope_core.proofs
use proofs.Words.{arith, true}
use proofs.NodeLists.{lessened_list}
use proofs.node_rows.NodeRows.take.Goals as goal

pub overflow_sub-self : goal.overflow_sub-self
overflow_sub-self c =
    let gone = c.lessen-is_last.ensures.taken (λ _. true) in
    omega arith

pub invariant_of-self : goal.invariant_of-self
invariant_of-self c =
    let gone = c.lessen-is_last.ensures.taken in
    let was = c.self.inside.rows in
    let all = gone (λ _. true) in
    record {
      total = omega arith;
      list = rw c.lessen-is_last.ensures.node
          (lessened_list was.node was.rows c.lessen-is_last.new.self.rows c.self.invariant.list
          (λ test. omega (arith, gone test))
          (c.lessen-is_last.ensures.counted c.self.invariant.list.counted));
    }

pub returns-clause-list : goal.returns-clause-list
returns-clause-list c = grind (arith, lessened_list)
