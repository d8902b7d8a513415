use Rattle.std.proofs.Common.{arith, refl}
use Rattle.otp_link.proofs.link.OtpLink.take_long.Goals as goal

pub returns-clause-taken : goal.returns-clause-taken
returns-clause-taken c = record {
  edge = c.in-Some.edge;
  after = c.note_skipped.new.edge;
  begun = c.in-Some.is;
  goes_on = refl;
  past = c.may_skip.ensures (grind arith);
  stays = c.note_skipped.ensures.stays;
  same = c.note_skipped.ensures.same;
  passed = grind arith;
}
