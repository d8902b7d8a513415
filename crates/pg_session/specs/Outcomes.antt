-- What a call has come to.
use Rattle.std.specs.Prelude.{◌≡◌, true, false, cond, List, Option, Some, None, Result, Ok, Err}
use Rattle.dist_types.specs.declared.pid.Pid.{Pid}
use Rattle.dist_types.specs.Listing.{same_pid}
use Rattle.policy_audit.specs.declared.reply.Reply.{Reply}
use Rattle.policy_audit.specs.declared.reply.Reply.TheVariants as reply
use Rattle.node_threads.specs.declared.fault.CallFault.{CallFault}
use Rattle.node_threads.specs.declared.fault.CallFault.TheVariants.{Core, StrangePass}
use Rattle.node_core.specs.declared.fault.CoreFault.TheVariants.{Refused, OutOfMemory}
use Rattle.policy_audit.specs.declared.rule.Rule.TheVariants as rules
use Rattle.pg_session.specs.declared.caller.Fetched.{Fetched}
use Rattle.pg_session.specs.declared.caller.Fetched.TheVariants as fetched
use Rattle.pg_session.specs.declared.caller.Lack.{Lack}
use Rattle.pg_session.specs.declared.caller.Lack.TheVariants as lack
use Rattle.pg_session.specs.declared.caller.Outcome.{Outcome}
use Rattle.pg_session.specs.declared.caller.Outcome.TheVariants as outcome
use Rattle.pg_session.specs.Processes.{has}

-- what was wanting for a call that was answered by this fault
abbrev pub lack_by : CallFault → Option Lack
lack_by StrangePass = None
lack_by (Core OutOfMemory) = Some lack.Memory
lack_by (Core (Refused rules.EntriesFull)) = Some lack.Room
lack_by (Core (Refused rule)) = None

-- what was wanting for a call that has come to this
abbrev pub lack_of : Outcome → Option Lack
lack_of (outcome.Refused lack) = lack
lack_of o = None

-- what has become of a monitor whose updates were asked for, where this was the answer
abbrev pub fetched_by : Result Reply CallFault → Fetched
fetched_by (Ok (reply.Updates us)) = fetched.Told
fetched_by (Err (Core (Refused rules.NoMonitor))) = fetched.Over
fetched_by answer = fetched.NotNow

-- this is the outcome of a call that was answered so
abbrev pub IsOutcome : Result Reply CallFault → Outcome → Type 0
IsOutcome (Ok (reply.Pid p)) o = o ≡ outcome.Process p
IsOutcome (Ok (reply.Ref n pids)) o = o ≡ outcome.Monitor n
IsOutcome (Ok (reply.ScopeRef n groups)) o = o ≡ outcome.Monitor n
IsOutcome (Ok r) o = o ≡ outcome.Done
IsOutcome (Err fault) o = o ≡ outcome.Refused (lack_by fault)

-- a process that has come is one of these
abbrev pub CameFrom : List Pid → Outcome → Type 0
CameFrom pids (outcome.Process p) = has pids p ≡ true
CameFrom pids o = Unit {0}

-- what a connection has once a call, by which this process was to exit, came to this
abbrev pub Kept : Outcome → Option Pid → List Pid → List Pid → Type 0
Kept (outcome.Process p) exits own own' = (q : Pid)
    → has own' q ≡ cond (same_pid p q) true (has own q)
Kept (outcome.Refused lack) exits own own' = own' ≡ own
Kept o (Some p) own own' = (q : Pid) → has own' q ≡ cond (same_pid p q) false (has own q)
Kept o None own own' = own' ≡ own
