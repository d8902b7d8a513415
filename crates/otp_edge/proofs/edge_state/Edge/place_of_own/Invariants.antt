use Rattle.otp_edge.proofs
use proofs.Words.{All, take}
use Rattle.otp_edge.specs.Opens.{IsOtherProcess}
use Rattle.otp_edge.proofs.edge_state.Edge.place_of_own.Given as goal

abbrev pub invariant-loop-place : goal.invariant-loop-place
invariant-loop-place l = All (IsOtherProcess l.own) (take l.place l.self.scopes.items)
