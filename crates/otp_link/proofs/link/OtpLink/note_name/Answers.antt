use Rattle.std.proofs.Common.{refl}
use Rattle.otp_link.specs.Known.{says, silent}
use Rattle.otp_link.proofs.link.OtpLink.note_name.Goals as goal

pub returns-clause-known : goal.returns-clause-known
returns-clause-known c = says c.in-Some.said.name.now c.in-Some.said.creation
    c.in_ok-own.own c.in-Some.ensures.run c.in_ok-own.ensures c.meet.ensures.known

pub returns-in_default-clause-known : goal.returns-in_default-clause-known
returns-in_default-clause-known c = silent c.in_default.ensures.only refl
