use Rattle.std.proofs.Common.{refl}
use Rattle.otp_link.specs.Sent.{no_body, said}
use Rattle.otp_link.proofs.link.OtpLink.bodies_sent.Goals as goal

pub returns-in-Ok-clause-said : goal.returns-in-Ok-clause-said
returns-in-Ok-clause-said c = said c.in-Some.edge c.say_body.new.self c.in-Some.is refl
    c.in-Ok.ensures.said

pub returns-in-Err-BadFrame-clause-said : goal.returns-in-Err-BadFrame-clause-said
returns-in-Err-BadFrame-clause-said c = no_body c.in-Some.edge c.say_body.new.self c.in-Some.is
    refl (c.in-Err-BadFrame.ensures.refused c.in-Err-BadFrame.field-0-is)
    c.in-Err-BadFrame.ensures.memory c.new-in-Err-BadFrame.ensures.items
