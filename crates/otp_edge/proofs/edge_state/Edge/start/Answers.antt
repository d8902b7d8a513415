use Rattle.otp_edge.specs
use Rattle.otp_edge.proofs.Words.{ap, ◌++◌, ◌∙◌}
use specs.Endings.{asking_of}
use specs.Said.{starts, told}
use Rattle.otp_edge.proofs.edge_state.Edge.start.Goals as goal

pub returns-clause-said : goal.returns-clause-said
returns-clause-said c = told (starts c.in_ok-open.open c.requires
    (c.in_ok-open.ensures c.args.life.now.processes c.in-Some.ensures.new)
    (c.in_ok-ask.ensures ∙ ap (λ l. l ++ asking_of c.in_ok-open.open) c.new-out.ensures.items)
    c.in_ok-push.ensures.items c.in-Some.ensures.next)
