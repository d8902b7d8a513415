use Rattle.std.proofs.Common.{sym, ◌∙◌}
use Rattle.world_script.proofs.Counted.{keeps_nodes}
use Rattle.world_script.proofs.named_world.NamedWorld.step.Goals as goal

pub invariant_of-self : goal.invariant_of-self
invariant_of-self c = c.self.invariant ∙ sym (keeps_nodes c.self.inside.world c.step.new.self
    c.args.step c.step.result c.step.ensures.step)
