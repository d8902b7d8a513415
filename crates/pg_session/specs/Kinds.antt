-- What an event is to a connection.
use Rattle.std.specs.Prelude.{ℕ, ◌==◌, Bool, true, false, not, List, [], ◌∷◌, ◌++◌}
use Rattle.std.specs.Prelude.{Option, Some, None}
use Rattle.std.specs.Borrow.{Bor}
use Rattle.std.specs.List.{filter}
use Rattle.std.specs.Option.{option_map}
use Rattle.dist_types.specs.declared.pid.Pid.{Pid}
use Rattle.policy_audit.specs.declared.event.Event.{Event}
use Rattle.policy_audit.specs.declared.event.Event.TheVariants as event
use Rattle.pg_session.specs.declared.caller.Outcome.{Outcome}
use Rattle.pg_session.specs.declared.caller.Outcome.TheVariants as outcome
use Rattle.pg_session.specs.declared.kind.Kind.{Kind}
use Rattle.pg_session.specs.declared.kind.Kind.TheVariants as kind
use Rattle.pg_session.specs.declared.stake.Stake.{Stake}
use Rattle.pg_session.specs.declared.stake.Stake.TheVariants as stake
use Rattle.pg_session.specs.declared.watch.Watch.{Watch}
use Rattle.pg_session.specs.Watching.{begun}

-- it reads rows
abbrev pub reads : Kind → Bool
reads kind.Query = true
reads k = false

-- it is a call that a line may ask for
abbrev pub calls : Kind → Bool
calls kind.Query = false
calls kind.Barred = false
calls k = true

-- the processes that exit, join or leave
abbrev pub moved : Kind → List Pid
moved (kind.Exit p) = p.now ∷ []
moved (kind.Move pids) = pids.now
moved k = []

-- the process that exits
abbrev pub exits : Kind → Option Pid
exits (kind.Exit p) = Some p.now
exits k = None

-- the process that exits, where that is what a call brings
abbrev pub exit_at : Stake → Option Pid
exit_at (stake.Exit p) = Some p
exit_at s = None

-- what a connection has to note of an event once it is accepted
abbrev pub stake_by : Event → Stake
stake_by (event.Exit p) = stake.Exit p
stake_by (event.Monitor s g) = stake.Begin (begun 0 s (Some g))
stake_by (event.MonitorScope s) = stake.Begin (begun 0 s None)
stake_by (event.Demonitor k) = stake.End k
stake_by e = stake.Nothing

-- the same by its kind
abbrev pub stake_of : Kind → Stake
stake_of (kind.Exit p) = stake.Exit p.now
stake_of (kind.Monitor s g) =
    stake.Begin (begun 0 s.now (option_map (λ (l : Bor (List ℕ)). l.now) g))
stake_of (kind.Demonitor k) = stake.End k
stake_of k = stake.Nothing

-- its monitors then, where the call came to this: one more, of the number that was answered, or all
-- but one that ended
abbrev pub watches_after : Outcome → Stake → List Watch → List Watch
watches_after (outcome.Monitor n) (stake.Begin w) ws = ws ++ record w { number = n } ∷ []
watches_after outcome.Done (stake.End k) ws = filter (λ w. not (w.number == k)) ws
watches_after o s ws = ws
