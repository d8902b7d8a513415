use Rattle.otp_edge.proofs.Words.{subst}
use Rattle.std.proofs.lemmas.Result.{IfErr-weaker}
use Rattle.otp_edge.specs.Signals.{HasTooMany}
use Rattle.otp_edge.proofs.signal_reading.read_signal.Goals as goal

pub returns-in-Some-control_at-clause-too_many : goal.returns-in-Some-control_at-clause-too_many
returns-in-Some-control_at-clause-too_many c = IfErr-weaker c.signal_of.result _ _
    (λ fault many is control behind body.
    subst HasTooMany (c.in-Some.ensures.only control behind body).1 (many is))
    c.signal_of.ensures.too_many
