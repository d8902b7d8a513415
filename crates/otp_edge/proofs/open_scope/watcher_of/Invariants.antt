use Rattle.otp_edge.proofs
use proofs.Words.{All, take}
use Rattle.otp_edge.specs.Watches.{IsOtherWatch}
use Rattle.otp_edge.proofs.open_scope.watcher_of.Given as goal

abbrev pub invariant-loop-place : goal.invariant-loop-place
invariant-loop-place l = All (IsOtherWatch l.reference) (take l.place l.watchers)
