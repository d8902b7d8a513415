use Rattle.otp_edge.specs.Said.{part, whole}
use Rattle.otp_edge.proofs.edge_state.Edge.say_body.Goals as goal

pub returns-then-self-clause-said : goal.returns-then-self-clause-said
returns-then-self-clause-said c = part c.in_ok-message.message c.if-self.true
    c.in_ok-message.ensures.found c.in_ok-out.ensures.said

pub returns-clause-said : goal.returns-clause-said
returns-clause-said c = whole c.in_ok-message-2.message c.if-self.false
    c.in_ok-message-2.ensures.found c.in_ok-out-2.ensures.said c.in_ok-out-2.ensures.parts
