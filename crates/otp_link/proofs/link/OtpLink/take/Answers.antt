use Rattle.std.proofs.Common.{refl, [], ◌++◌, ◌∙◌}
use Rattle.std.specs.Int.{w16, w32}
use Rattle.handshake_frames.specs.Spelling.{counted}
use Rattle.otp_link.proofs
use Rattle.otp_link.specs.Taking.{body, by_body, by_frame, by_long, frame, long, tick}
use proofs.Exits.{met}
use Rattle.otp_link.proofs.link.OtpLink.take.Goals as goal

pub take_frame-requires : goal.take_frame-requires
take_frame-requires g c = c.len_before.ensures (counted w16 c.in-Frame.body.now)
    c.in-Frame.ensures.1.1

pub take_body-requires : goal.take_body-requires
take_body-requires g c = c.len_before-used.ensures (counted w32 c.in-Body.body.now)
    c.in-Body.ensures.1.2

pub returns-in_ok-take_frame-in-Frame-clause-taken
    : goal.returns-in_ok-take_frame-in-Frame-clause-taken
returns-in_ok-take_frame-in-Frame-clause-taken g c = frame c.in-Frame.body.now
    c.in-Frame.rest.now c.in-Frame.ensures.0 c.in-Frame.ensures.1
    c.in_ok-take_frame-in-Frame.ensures.taken

pub returns-in_ok-take_body-in-Body-clause-taken
    : goal.returns-in_ok-take_body-in-Body-clause-taken
returns-in_ok-take_body-in-Body-clause-taken g c = body c.in-Body.body.now c.in-Body.rest.now
    c.in-Body.ensures.0 c.in-Body.ensures.1
    c.in_ok-take_body-in-Body.ensures.taken
    (c.in_ok-take_body-in-Body.ensures.up ∙ c.in-Body.ensures.0)

pub returns-in-Tick-clause-taken : goal.returns-in-Tick-clause-taken
returns-in-Tick-clause-taken g c =
    let used = c.len_before-in-Tick.ensures (counted w32 []) c.in-Tick.ensures.1 in
    tick c.in-Tick.rest.now c.in-Tick.ensures.0 c.in-Tick.ensures.1
    (c.only_used.ensures.0 ∙ used, c.only_used.ensures.1, c.only_used.ensures.2) refl

pub returns-in_ok-take_long-in-Long-clause-taken
    : goal.returns-in_ok-take_long-in-Long-clause-taken
returns-in_ok-take_long-in-Long-clause-taken g c =
    let behind = c.in-Long.ensures.5 in
    long c.in-Long.len c.in-Long.begin.now behind.0 c.in-Long.ensures.0 c.in-Long.ensures.1
    behind.1 c.in_ok-take_long-in-Long.ensures.taken
    (c.in_ok-take_long-in-Long.ensures.up ∙ c.in-Long.ensures.0)

pub returns-in_err-take_frame-in-Frame-clause-refused
    : goal.returns-in_err-take_frame-in-Frame-clause-refused
returns-in_err-take_frame-in-Frame-clause-refused g c = met _ _ _ c.from_residual.ensures.1
    (by_frame c.in-Frame.body.now c.in-Frame.rest.now c.in-Frame.ensures.0 c.in-Frame.ensures.1
    c.in_err-take_frame-in-Frame.ensures.refused)

pub returns-in_err-take_body-in-Body-clause-refused
    : goal.returns-in_err-take_body-in-Body-clause-refused
returns-in_err-take_body-in-Body-clause-refused g c =
    met _ _ _ c.from_residual-in_err-take_body-in-Body.ensures.1
    (by_body c.in-Body.body.now c.in-Body.rest.now c.in-Body.ensures.0 c.in-Body.ensures.1
    c.in_err-take_body-in-Body.ensures.refused)

pub returns-in_err-take_long-in-Long-clause-refused
    : goal.returns-in_err-take_long-in-Long-clause-refused
returns-in_err-take_long-in-Long-clause-refused g c =
    let behind = c.in-Long.ensures.5 in
    met _ _ _ c.from_residual-in_err-take_long-in-Long.ensures.1
    (by_long c.in-Long.len (c.in-Long.begin.now ++ behind.0) c.in-Long.ensures.0
    c.in-Long.ensures.1 behind.1 c.in_err-take_long-in-Long.ensures.refused)
