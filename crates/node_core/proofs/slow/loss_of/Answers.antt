use Rattle.node_core.proofs
use proofs.Words.{ap, filter, not, ◌++◌, ◌∙◌}
use Rattle.node_core.specs.Ending.{is_stopped}
use proofs.AllLost.{loss_proper}
use proofs.slow.loss_of.Goals as goal

pub gathered-requires : goal.gathered-requires
gathered-requires c =
    let l = c.in_ok-lose.ensures in
    let running = c.args.running.now in
    let ends = filter (λ e. not (is_stopped c.args.stopped running.scope)) c.args.ends.now in
    loss_proper running.table ends running.scope c.args.own.now l.0 c.lose.new.groups.items
    c.requires l.1 (l.2 ∙ ap (λ xs. xs ++ l.0) c.in_ok-groups.ensures)
