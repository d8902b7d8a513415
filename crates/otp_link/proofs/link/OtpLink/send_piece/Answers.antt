use Rattle.std.proofs.Common.{ap, append-nil, refl, sym, [], ◌++◌, ◌∙◌}
use Rattle.std.specs.Int.{w16, w32}
use Rattle.handshake_frames.specs.Spelling.{counted}
use Rattle.otp_link.specs.Sent.{frame, message, tick}
use Rattle.otp_link.proofs.link.OtpLink.send_piece.Goals as goal

pub returns-in_ok-put_frame-in-Frame-clause-sent : goal.returns-in_ok-put_frame-in-Frame-clause-sent
returns-in_ok-put_frame-in-Frame-clause-sent c =
    let sent = c.in_ok-frame-in-Frame.frame.items in record {
      piece = counted w16 c.in-Frame.body.now;
      out = counted w16 sent;
      front = c.in-Frame.ensures.1.1;
      sends = frame c.in-Frame.body.now sent c.in-Frame.ensures.0 c.in-Frame.ensures.1.0 refl
          c.in_ok-frame-in-Frame.ensures.frame refl c.in_ok-frame-in-Frame.ensures.known refl
          c.in_ok-frame-in-Frame.ensures.sends;
      behind = c.in_ok-put_frame-in-Frame.ensures.put
          ∙ ap (λ l. c.args.out.now.items ++ counted w16 l) c.deref.ensures.value;
    }

pub returns-in_ok-extend_from_slice-in-Body-clause-sent
    : goal.returns-in_ok-extend_from_slice-in-Body-clause-sent
returns-in_ok-extend_from_slice-in-Body-clause-sent c = record {
  piece = counted w32 c.in-Body.body.now;
  out = c.in_ok-bodies-in-Body.bodies.items;
  front = c.in-Body.ensures.1.2;
  sends = message c.in-Body.body.now c.in-Body.ensures.0 c.in-Body.ensures.1.0
      c.in-Body.ensures.1.1 refl c.in_ok-bodies-in-Body.ensures.said
      (c.in_ok-bodies-in-Body.ensures.sends ∙ c.in-Body.ensures.0);
  behind = c.in_ok-extend_from_slice-in-Body.ensures.items
      ∙ ap (λ l. c.args.out.now.items ++ l) c.deref-in-Body.ensures.value;
}

pub returns-in-Tick-clause-sent : goal.returns-in-Tick-clause-sent
returns-in-Tick-clause-sent c = record {
  piece = counted w32 [];
  out = [];
  front = c.in-Tick.ensures.1;
  sends = tick c.in-Tick.ensures.0 refl refl refl;
  behind = sym (append-nil c.args.out.now.items);
}
