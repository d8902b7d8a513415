-- The calls of a connection.
use Rattle.std.specs.Prelude.{◌≡◌, ℕ, Bool, true, false, ◌&&◌, List, [], ◌∷◌, ◌++◌, codes, Option}
use Rattle.std.specs.Prelude.{Result, Ok, Err}
use Rattle.std.specs.List.{All}
use Rattle.dist_types.specs.declared.pid.Pid.{Pid}
use Rattle.policy_audit.specs.declared.event.Event.{Event}
use Rattle.policy_audit.specs.declared.reply.Reply.{Reply}
use Rattle.node_threads.specs.declared.fault.CallFault.{CallFault}
use Rattle.node_threads.specs.declared.fault.CallFault.TheVariants.{StrangePass, Core}
use Rattle.node_threads.specs.declared.pass.Call.{Call}
use Rattle.node_threads.specs.Calls.{Record, Gains}
use Rattle.node_threads.specs.Applied.{Called}
use Rattle.pg_text.specs.Answers.{step_line}
use Rattle.pg_session.specs.declared.caller.Lack.{Lack}
use Rattle.pg_session.specs.declared.caller.Outcome.{Outcome}
use Rattle.pg_session.specs.declared.news.Seen.{Seen}
use Rattle.pg_session.specs.declared.watch.Watch.{Watch}
use Rattle.pg_session.specs.Asked.{ends, is_made}
use Rattle.pg_session.specs.Kinds.{stake_by, watches_after}
use Rattle.pg_session.specs.Notices.{Known}
use Rattle.pg_session.specs.Outcomes.{IsOutcome, lack_of}
use Rattle.pg_session.specs.Processes.{has, spawned, exited_by, moves_only, OwnAfter}

-- whether a connection that has spawned these may call this
abbrev pub may_call : List Pid → Event → Bool
may_call own e = is_made e && moves_only own e

-- the calls are such calls: each moves none but processes that these calls have spawned
abbrev pub AreConnections : List Call → Type 0
AreConnections calls = All (λ (c : Call). may_call (spawned calls) c.event ≡ true) calls

-- one call of this event
abbrev pub IsCalled : Record → Event → Record → Type 0
IsCalled pass e pass' = (answer : Result Reply CallFault) × Called pass e answer pass'

-- the pass has gained some calls
abbrev pub GoesOn : Record → Record → Type 0
GoesOn pass pass' = (more : List Call) × Gains pass more pass'

-- the pass has gained some calls, each of an event that passes a test
pub record GoesOnBy (test : Event → Bool) (pass pass' : Record) : Type 0 where
  pub more : List Call
  pub gains : Gains pass more pass'
  pub only : All (λ (c : Call). test c.event ≡ true) more

-- ---- the seat of a connection

-- its calls, the processes that it has, whether a connection sits there, who is up as far as that
-- knows, its monitors, and how far it has been told
pub record Seat : Type 0 where
  pub pass : Record
  pub own : List Pid
  pub taken : Bool
  pub known : Known
  pub watches : List Watch
  pub seen : Seen

-- it has spawned those that it has
abbrev pub IsSeat : Seat → Type 0
IsSeat seat = (p : Pid) → has seat.own p ≡ true → has (spawned seat.pass.calls) p ≡ true

-- whether there was a monitor: then the last one has gone, and all further calls are to end it;
-- if not, all is as it was
abbrev pub LeavesMonitor : Bool → Seat → Seat → Type 0
LeavesMonitor true seat seat' = (w : Watch) × (seat.watches ≡ seat'.watches ++ w ∷ [])
    × GoesOnBy (ends w.number) seat.pass seat'.pass
LeavesMonitor false seat seat' = (seat.watches ≡ []) × (seat' ≡ seat)

-- the line for a pass that the node doesn't know
abbrev pub stranger_line : List ℕ
stranger_line = codes "fault the pass isn't of this node\n"

-- the line for what a call is answered
abbrev pub call_line : Result Reply CallFault → List ℕ
call_line (Ok reply) = step_line (Ok reply)
call_line (Err (Core fault)) = step_line (Err fault)
call_line (Err StrangePass) = stranger_line

-- one call of the event, whose answer was added to these bytes, and for which this was wanting, if
-- anything; processes and monitors come and go as it says
abbrev pub AnswersCall : Seat → Event → Option Lack → List ℕ → Seat → List ℕ → Type 0
AnswersCall seat e lack out seat' out' = (answer : Result Reply CallFault) × (came : Outcome)
    × Called seat.pass e answer seat'.pass × IsOutcome answer came × (lack ≡ lack_of came)
    × OwnAfter answer (exited_by e) seat.own seat'.own
    × (seat'.watches ≡ watches_after came (stake_by e) seat.watches)
    × (out' ≡ out ++ call_line answer)
