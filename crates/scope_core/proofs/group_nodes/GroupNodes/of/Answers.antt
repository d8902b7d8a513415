use Rattle.scope_core.proofs
use proofs.Words.{ap, sym}
use proofs.GroupNodes.{found_nodes, none_times, times, times_once}
use proofs.group_nodes.GroupNodes.of.Goals as goal

pub returns-in-Some-clause-nodes : goal.returns-in-Some-clause-nodes
returns-in-Some-clause-nodes c = λ n. rw (← c.self.view_is, c.deref.ensures.value)
    (ap (λ ns. times ns n)
    (found_nodes c.self.inside.nodes.entries c.args.group.now c.in-Some.nodes.now
    (sym c.in-Some.ensures.value)))

pub returns-in-Some-clause-rises : goal.returns-in-Some-clause-rises
returns-in-Some-clause-rises c = rw (
  c.deref.ensures.value,
  found_nodes c.self.inside.nodes.entries c.args.group.now c.in-Some.nodes.now
      (sym c.in-Some.ensures.value),
) (c.self.invariant c.args.group.now)

pub returns-in-Some-clause-once : goal.returns-in-Some-clause-once
returns-in-Some-clause-once c = times_once _ (returns-in-Some-clause-rises c)

pub returns-in-None-clause-nodes : goal.returns-in-None-clause-nodes
returns-in-None-clause-nodes c = λ n. rw (← c.self.view_is)
    (sym (none_times c.self.inside.nodes.entries c.args.group.now (sym c.in-None.ensures.value) n))
