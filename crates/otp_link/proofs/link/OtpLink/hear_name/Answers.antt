use Rattle.std.proofs.Common.{refl}
use Rattle.std.proofs.lemmas.Bool.{and_parts}
use Rattle.otp_link.specs.Known.{says, silent}
use Rattle.otp_link.proofs.link.OtpLink.hear_name.Goals as goal

pub returns-clause-known : goal.returns-clause-known
returns-clause-known c = says c.in-Some.said.name.now c.in-Some.said.creation
    c.in_ok-peer.peer c.in-Some.ensures.run c.in_ok-peer.ensures
    (rw c.meet.ensures.kind c.meet.ensures.known)

pub returns-clause-agrees : goal.returns-clause-agrees
returns-clause-agrees c = record {
  says = λ both. c.in-Some.ensures.bare
      (and_parts c.args.self.now.kind.in_parts c.in-Some.said.is_bare
      (rw c.meet.ensures.kind at both)).1;
  kept = λ takes bare. rw c.meet.ensures.kind (rw takes (c.in-Some.ensures.only_bare bare));
  told = λ _ _. refl;
  same = λ silent. absurd (silent c.in-Some.said.flags.0 c.in-Some.ensures.found);
}

pub returns-in_default-clause-known : goal.returns-in_default-clause-known
returns-in_default-clause-known c = silent c.in_default.ensures.only refl

pub returns-in_default-clause-agrees : goal.returns-in_default-clause-agrees
returns-in_default-clause-agrees c = record {
  says = λ is. absurd (cc);
  kept = λ takes bare. absurd (c.in_default.ensures.only_bare bare);
  told = λ flags says. absurd (c.in_default.ensures.only flags says);
  same = λ _. refl;
}
