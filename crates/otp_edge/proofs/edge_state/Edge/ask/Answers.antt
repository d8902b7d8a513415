use Rattle.otp_edge.specs.Endings.{asking_again}
use Rattle.otp_edge.proofs.SayingLemmas.{bytes_more}
use Rattle.otp_edge.proofs.edge_state.Edge.ask.Goals as goal

pub loop-open-preserved : goal.loop-open-preserved
loop-open-preserved c = bytes_more (asking_again c.args.all) c.args.self.now.scopes.items
    c.deref-open-items.result.now c.loop-open.open-index c.open-item.result
    c.loop-open.out.items c.ask_again.new.out.items c.deref-open-items.ensures.value
    c.loop-open-test.true c.open-item.is c.loop-open.invariant c.in_ok-ask_again.ensures
