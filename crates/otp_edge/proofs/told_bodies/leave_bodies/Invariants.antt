use Rattle.otp_edge.proofs.Words.{take, ◌≡◌}
use Rattle.otp_edge.specs.Sayings.{leaves, told_bytes}
use Rattle.otp_edge.proofs.told_bodies.leave_bodies.Given as goal

abbrev pub invariant-loop-one : goal.invariant-loop-one
invariant-loop-one l =
    l.out.items ≡ told_bytes l.ends.other.now (leaves l.ends.own.now (take l.one-index l.told))
