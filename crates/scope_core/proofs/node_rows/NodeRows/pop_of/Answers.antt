use Rattle.scope_core.proofs
use proofs.Words.{arith, true}
use proofs.NodeLists.{lessened_list}
use proofs.node_rows.NodeRows.pop_of.Goals as goal

pub overflow_sub-self : goal.overflow_sub-self
overflow_sub-self c =
    let gone = c.in_ok-gone.ensures.gone (λ _. true) in
    omega arith

pub invariant_of-self-2 : goal.invariant_of-self-2
invariant_of-self-2 c =
    let gone = c.in_ok-gone.ensures.gone in
    let was = c.self.inside.rows in
    let all = gone (λ _. true) in
    record {
      total = omega arith;
      list = rw c.pop_of.ensures.node
          (lessened_list was.node was.rows c.pop_of.new.self.rows c.self.invariant.list
          (λ test. omega (arith, gone test))
          (c.pop_of.ensures.counted c.self.invariant.list.counted));
    }

pub returns-clause-list : goal.returns-clause-list
returns-clause-list c = grind (arith, lessened_list)
