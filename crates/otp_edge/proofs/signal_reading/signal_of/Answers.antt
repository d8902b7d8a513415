use Rattle.otp_edge.proofs.signal_reading.signal_of.Goals as goal

pub returns-in_default-clause-found : goal.returns-in_default-clause-found
returns-in_default-clause-found c = λ body has. c.other_signal.ensures c.args.behind.now body has
