-- What an event asks for.
use Rattle.std.specs.Prelude.{Bool, true, false, List, [], ◌∷◌}
use Rattle.dist_types.specs.declared.pid.Pid.{Pid}
use Rattle.policy_audit.specs.declared.event.Event.{Event}
use Rattle.policy_audit.specs.declared.event.Event.TheVariants as event

-- it opens a link, brings or takes the frames of one, or says that one is gone
abbrev pub speaks_for_link : Event → Bool
speaks_for_link (event.Dial peer challenge) = true
speaks_for_link (event.Opened challenge) = true
speaks_for_link (event.Lost l) = true
speaks_for_link (event.Take l) = true
speaks_for_link (event.Frame l body) = true
speaks_for_link e = false

-- the processes that it makes exit, join or leave
abbrev pub moved_pids : Event → List Pid
moved_pids (event.Exit p) = p ∷ []
moved_pids (event.Join s g pids) = pids
moved_pids (event.Leave s g pids) = pids
moved_pids e = []
