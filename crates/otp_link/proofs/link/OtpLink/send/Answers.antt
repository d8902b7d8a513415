use Rattle.otp_link.proofs
use Rattle.std.proofs.Common.{refl, ◌∙◌}
use Rattle.otp_link.specs.Sent.{stand_of}
use proofs.Sends.{sends_more, sends_none}
use Rattle.otp_link.proofs.link.OtpLink.send.Goals as goal

pub loop-left-init : goal.loop-left-init
loop-left-init c = record {
  sends = sends_none c.args.self.now.kind (stand_of c.args.self.now c.args.life.now)
      c.args.batch.now c.new-out.result.items c.new-out.ensures.items;
  kind = refl;
  other = refl;
  healing = refl;
}

pub loop-left-preserved : goal.loop-left-preserved
loop-left-preserved c =
    let front = rw c.in-Some.is at c.in_ok-rest.ensures.sent in record {
      sends = sends_more c.args.self.now.kind c.loop-left.self.kind
          (stand_of c.args.self.now c.args.life.now) (stand_of c.loop-left.self c.loop-left.life)
          (stand_of c.send_piece.new.self c.send_piece.new.life) c.args.batch.now
          c.loop-left.left.now c.in-Some.rest.now c.loop-left.out.items
          c.send_piece.new.out.items c.loop-left.invariant.kind c.loop-left.invariant.sends front;
      kind = c.in_ok-rest.ensures.kind ∙ c.loop-left.invariant.kind;
      other = c.in_ok-rest.ensures.other ∙ c.loop-left.invariant.other;
      healing = c.in_ok-rest.ensures.healing ∙ c.loop-left.invariant.healing;
    }
