use Rattle.otp_edge.proofs
use proofs.Words.{Decides-eqb, nil_from_length, sym}
use proofs.SignalLemmas.{same_control}
use Rattle.otp_edge.proofs.signal_reading.sent.Goals as goal

pub returns-in-Some-2-clause-found : goal.returns-in-Some-2-clause-found
returns-in-Some-2-clause-found c = λ body has.
    let control = c.args.control.now in
    let member = rw c.in-Some.is at c.in_ok-to.ensures.found in
    let says = rw c.in-Some-2.is at c.in_ok-said.ensures.found in (
      control.first.now,
      member.0,
      (
        c.args.behind.now,
        same_control _ _ 3 2 _ _ _ _ _ _ _ has c.requires.arity c.requires.operation member.1
            (nil_from_length control.rest.now ((Decides-eqb _ 0).0 (sym c.if-is_empty.ensures))),
        says,
      ),
    )
