use Rattle.otp_edge.proofs.Words.{All, take}
use Rattle.otp_edge.specs.Opens.{IsOther}
use Rattle.otp_edge.proofs.edge_state.Edge.place_of.Given as goal

abbrev pub invariant-loop-place : goal.invariant-loop-place
invariant-loop-place l = All (IsOther l.name) (take l.place l.self.scopes.items)
