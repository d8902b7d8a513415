use Rattle.otp_edge.proofs.Words.{flat_map, take, ◌≡◌}
use Rattle.otp_edge.specs.Endings.{asking_again}
use Rattle.otp_edge.proofs.edge_state.Edge.ask.Given as goal

abbrev pub invariant-loop-open : goal.invariant-loop-open
invariant-loop-open l =
    l.out.items ≡ flat_map (asking_again l.all) (take l.open-index l.self.scopes.items)
