-- The processes of a connection.
use Rattle.std.specs.Prelude.{◌≡◌, Bool, true, false, cond, List, [], ◌∷◌, Option, Some, None, Result, Ok}
use Rattle.std.specs.List.{flat_map, list_any, list_all}
use Rattle.dist_types.specs.declared.pid.Pid.{Pid}
use Rattle.dist_types.specs.Listing.{same_pid}
use Rattle.policy_audit.specs.declared.event.Event.{Event}
use Rattle.policy_audit.specs.declared.event.Event.TheVariants as event
use Rattle.policy_audit.specs.declared.reply.Reply.{Reply}
use Rattle.policy_audit.specs.declared.reply.Reply.TheVariants as reply
use Rattle.policy_audit.specs.declared.entry.Verdict.{Verdict}
use Rattle.policy_audit.specs.declared.entry.Verdict.TheVariants.{Accepted}
use Rattle.node_threads.specs.declared.fault.CallFault.{CallFault}
use Rattle.node_threads.specs.declared.pass.Call.{Call}
use Rattle.pg_text.specs.Asked.{moved_pids}

-- whether the process is one of these
abbrev pub has : List Pid → Pid → Bool
has pids p = list_any (same_pid p) pids

-- the process that an event with this verdict has made: only a Spawn is answered by one
abbrev pub made_in : Verdict → List Pid
made_in (Accepted (reply.Pid p)) = p ∷ []
made_in verdict = []

-- the processes that the calls have spawned
abbrev pub spawned : List Call → List Pid
spawned calls = flat_map (λ (c : Call). made_in c.verdict) calls

-- the process that the event makes exit
abbrev pub exited_by : Event → Option Pid
exited_by (event.Exit p) = Some p
exited_by e = None

-- whether the event makes none exit, join or leave but these
abbrev pub moves_only : List Pid → Event → Bool
moves_only own e = list_all (has own) (moved_pids e)

-- what a connection has once a call, by which this process was to exit, was answered so: one that
-- was spawned is its own, and one that exited isn't any more
abbrev pub OwnAfter : Result Reply CallFault → Option Pid → List Pid → List Pid → Type 0
OwnAfter (Ok (reply.Pid p)) exits own own' = (q : Pid)
    → has own' q ≡ cond (same_pid p q) true (has own q)
OwnAfter (Ok r) (Some p) own own' = (q : Pid) → has own' q ≡ cond (same_pid p q) false (has own q)
OwnAfter answer exits own own' = own' ≡ own
