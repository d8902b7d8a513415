use Rattle.otp_edge.proofs
use proofs.Words.{refl}
use proofs.SignalLemmas.{same_control}
use Rattle.otp_edge.proofs.signal_reading.named.Goals as goal

pub returns-in-Some-2-clause-found : goal.returns-in-Some-2-clause-found
returns-in-Some-2-clause-found c = λ body has.
    let control = c.args.control.now in
    let says = rw c.in-Some-2.is at c.in_ok-said.ensures.found in (
      control.first.now,
      (
        control.second.now,
        (
          c.args.behind.now,
          same_control _ _ 4 6 _ _ _ _ _ _ _ has c.requires.arity c.requires.operation refl
              c.in-Some.ensures.found,
          says,
        ),
      ),
    )

pub returns-in-Some-message_at-clause-found : goal.returns-in-Some-message_at-clause-found
returns-in-Some-message_at-clause-found c = λ body has.
    let control = c.args.control.now in (
      control.first.now,
      (
        control.second.now,
        (
          c.args.behind.now,
          same_control _ _ 4 6 _ _ _ _ _ _ _ has c.requires.arity c.requires.operation refl
              c.in-Some.ensures.found,
          record {
            spelled = c.in-Some-message_at.ensures.found.0;
            bytes = c.in-Some-message_at.ensures.found.1;
          },
        ),
      ),
    )
