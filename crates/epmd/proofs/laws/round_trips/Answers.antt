use Rattle.std.proofs.Common.{rules}
use Rattle.epmd.proofs.laws.round_trips.Goals as goal

pub returns-clause-port : goal.returns-clause-port
returns-clause-port c =
    λ port extra fits. record { fits = fits; extra = extra; is = search rules }
