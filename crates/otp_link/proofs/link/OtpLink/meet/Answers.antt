use Rattle.std.proofs.Common.{arith, inr, refl}
use Rattle.otp_link.proofs.link.OtpLink.meet.Goals as goal

pub returns-in-Some-Some-clause-known : goal.returns-in-Some-Some-clause-known
returns-in-Some-Some-clause-known c = inr (
  _,
  refl,
  record {
    none = grind arith;
    own = grind arith;
    peer = grind arith;
    in_parts = refl;
    scopes = grind arith;
    parts = grind arith;
  },
)
