use Rattle.frame_laws.proofs.Accepting.{is_up_there, scope_runs, shows}
use Rattle.frame_laws.proofs.laws.who_is_heard.Goals as goal

pub returns : goal.returns
returns c = record { runs = scope_runs; up = is_up_there; visible = shows }
