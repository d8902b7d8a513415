-- The line that an answer is printed as.
use Rattle.std.specs.Prelude.{ℕ, Bool, List, ◌++◌, codes, decimal, length, if◌then◌else◌, Option, Some, None, Ok, Err}
use Rattle.std.specs.Prelude.{nat_lt, nat_le, cond, ◌&&◌}
use Rattle.std.specs.declared.result.Result.{Result}
use Rattle.std.specs.List.{flat_map}
use Rattle.hex.specs.Hex.{encode_lower}
use Rattle.dist_types.specs.declared.pid.Pid.{Pid}
use Rattle.policy_audit.specs.declared.reply.Reply.{Reply}
use Rattle.policy_audit.specs.declared.reply.Reply.TheVariants as reply
use Rattle.policy_audit.specs.declared.reply.GroupPids.{GroupPids}
use Rattle.policy_audit.specs.declared.reply.Update.{Update}
use Rattle.policy_audit.specs.OutFrame.{OutFrame}
use Rattle.policy_audit.specs.declared.rule.Rule.{Rule}
use Rattle.policy_audit.specs.declared.entry.Entry.{Entry}
use Rattle.policy_audit.specs.declared.entry.Verdict.{Verdict}
use Rattle.policy_audit.specs.declared.entry.Verdict.TheVariants.{Accepted, Refused}
use Rattle.policy_audit.specs.Rules.{rule_line}
use Rattle.policy_audit.specs.Log.{entry_at}
use Rattle.node_core.specs.declared.fault.CoreFault.{CoreFault}
use Rattle.node_core.specs.declared.fault.CoreFault.TheVariants as faults
use Rattle.pg_text.specs.Kinds.{kind_text}

-- each behind a space
abbrev pub spaced : {A : Type 0} → (A → List ℕ) → List A → List ℕ
spaced text items = flat_map (λ x. codes " " ++ text x) items

-- `name/creation/number`
abbrev pub pid_text : Pid → List ℕ
pid_text p = p.node ++ codes "/" ++ decimal p.creation ++ codes "/" ++ decimal p.number

-- how many processes, and each
abbrev pub counted_text : List Pid → List ℕ
counted_text pids = codes " " ++ decimal (length pids) ++ spaced pid_text pids

-- a group and its processes
abbrev pub group_text : GroupPids → List ℕ
group_text g = g.group ++ counted_text g.pids

-- what processes did
abbrev pub happened_text : Bool → List ℕ
happened_text leave = if leave then codes "leave " else codes "join "

-- what happened, in which group, to which processes
abbrev pub update_text : Update → List ℕ
update_text u = happened_text u.leave ++ u.group ++ counted_text u.pids

-- an update with the number of the monitor that it is told to
abbrev pub told_text : ℕ → Update → List ℕ
told_text monitor u = happened_text u.leave ++ decimal monitor ++ codes " " ++ u.group
    ++ counted_text u.pids

-- a body in hex
abbrev pub frame_text : OutFrame → List ℕ
frame_text f = encode_lower f.body

-- the answer to an accepted event
abbrev pub reply_text : Reply → List ℕ
reply_text reply.Done = codes "ok"
reply_text (reply.Pid p) = codes "pid " ++ pid_text p
reply_text (reply.Link number) = codes "link " ++ decimal number
reply_text (reply.Up peer creation visible) = codes "up " ++ peer ++ codes " " ++ decimal creation
    ++ (if visible then codes " visible" else codes " hidden")
reply_text (reply.Pids pids) = codes "pids" ++ spaced pid_text pids
reply_text (reply.Groups groups) = codes "groups" ++ spaced (λ g. g) groups
reply_text (reply.Ref number pids) = codes "ref " ++ decimal number ++ spaced pid_text pids
reply_text (reply.ScopeRef number groups) = codes "ref " ++ decimal number
    ++ spaced group_text groups
reply_text (reply.Updates updates) = codes "updates" ++ spaced update_text updates
reply_text (reply.Out frames) = codes "out" ++ spaced frame_text frames

-- a rule by its number and its name
abbrev pub refusal_text : Rule → List ℕ
refusal_text rule = codes "refused " ++ decimal (rule_line rule).0 ++ codes " "
    ++ (rule_line rule).1

-- the line for what the policy makes of an event
abbrev pub verdict_line : Verdict → List ℕ
verdict_line (Accepted reply) = reply_text reply ++ codes "\n"
verdict_line (Refused rule) = refusal_text rule ++ codes "\n"

-- where a step found no memory
abbrev pub memory_line : List ℕ
memory_line = codes "memory\n"

-- the line for what a step answered
abbrev pub step_line : Result Reply CoreFault → List ℕ
step_line (Ok reply) = verdict_line (Accepted reply)
step_line (Err (faults.Refused rule)) = verdict_line (Refused rule)
step_line (Err faults.OutOfMemory) = memory_line

-- the line for a seat that was taken
abbrev pub seat_line : List ℕ
seat_line = codes "ok\n"

-- the line for the number of entries
abbrev pub size_line : ℕ → List ℕ
size_line n = codes "size " ++ decimal n ++ codes "\n"

-- how an entry was judged, without its answer
abbrev pub judged_text : Verdict → List ℕ
judged_text (Accepted reply) = codes "accepted"
judged_text (Refused rule) = refusal_text rule

-- the line for an entry: its number, its seat, the kind of its event, how it was judged
abbrev pub entry_line : Option Entry → List ℕ
entry_line (Some e) = decimal e.number ++ codes " " ++ decimal e.seat ++ codes " "
    ++ kind_text e.event ++ codes " " ++ judged_text e.verdict ++ codes "\n"
entry_line None = codes "none\n"

-- the entry of that number was handed out, where so many are forgotten
abbrev pub is_forgotten : ℕ → ℕ → Bool
is_forgotten forgotten number = nat_lt 0 number && nat_le number forgotten

-- the line for one that was handed out
abbrev pub forgotten_line : List ℕ
forgotten_line = codes "forgotten\n"

-- the line for the entry of that number, where so many are forgotten
abbrev pub found_line : ℕ → List Entry → ℕ → List ℕ
found_line forgotten entries number =
    cond (is_forgotten forgotten number) forgotten_line (entry_line (entry_at number entries))

-- the last line of a script that has a fault in line k
abbrev pub fault_line : ℕ → List ℕ
fault_line k = codes "fault line " ++ decimal k ++ codes "\n"
