use Rattle.pg_world.proofs
use proofs.Words.{drop, IsWorld, IsWorldStep, length, subst, sym, take, take_at, world, ◌++◌, ◌∙◌}
use proofs.Words.{◌≡◌}
use proofs.Staying.{stays}
use proofs.Moments.{lists_moments, lists_now}
use Rattle.pg_world.proofs.world.World.step.Goals as goal

-- the nodes behind the loan of their list
nodes_are : (c : goal.After-self-1) → take c.self.inside.nodes.len (c.make_step.new.nodes ++ drop
    (length c.make_step.new.nodes) c.self.inside.nodes.items) ≡ c.make_step.new.nodes
nodes_are c = take_at c.make_step.new.nodes
    (drop (length c.make_step.new.nodes) c.self.inside.nodes.items) c.self.inside.nodes.len
    (c.make_step.auto.nodes ∙ c.deref_mut.ensures.len)

pub invariant_of-self : goal.invariant_of-self
invariant_of-self c =
    subst (λ ns. IsWorld (world ns c.make_step.new.wires.items)) (sym (nodes_are c))
    (stays (world c.self.inside.nodes.items c.self.inside.wires.items)
    (world c.make_step.new.nodes c.make_step.new.wires.items) c.args.step c.make_step.result
    c.self.invariant c.step_is_written.ensures
    (subst (λ ns. IsWorldStep (world ns c.self.inside.wires.items) c.args.step
    (world c.make_step.new.nodes c.make_step.new.wires.items) c.make_step.result)
    c.deref_mut.ensures.value c.make_step.ensures))

pub returns-clause-moments : goal.returns-clause-moments
returns-clause-moments c = lists_moments _ (invariant_of-self c)

pub returns-clause-settled : goal.returns-clause-settled
returns-clause-settled c = lists_now _ (invariant_of-self c)
