use Rattle.std.proofs.Common.{length, ◌≡◌}
use Rattle.otp_link.specs.Sent.{SendsUpTo, stand_of}
use Rattle.otp_link.proofs.link.OtpLink.send.Given as goal

abbrev pub invariant-loop-left : goal.invariant-loop-left
invariant-loop-left l = record {
  sends : SendsUpTo l.fn.self.kind (stand_of l.fn.self l.fn.life) (stand_of l.self l.life)
      l.fn.batch l.left l.out.items;
  kind : l.self.kind ≡ l.fn.self.kind;
  other : l.self.takes_bodies ≡ l.fn.self.takes_bodies;
  healing : l.self.healing ≡ l.fn.self.healing;
}

abbrev pub decreases-loop-left : goal.decreases-loop-left
decreases-loop-left l = length l.left
