-- Verdicts as fields of a line.
use Rattle.std.specs.Prelude.{ℕ, List, ◌++◌, codes, decimal}
use Rattle.policy_audit.specs.declared.reply.Reply.{Reply}
use Rattle.policy_audit.specs.declared.reply.Reply.TheVariants as reply
use Rattle.policy_audit.specs.declared.rule.Rule.{Rule}
use Rattle.policy_audit.specs.declared.entry.Verdict.{Verdict}
use Rattle.policy_audit.specs.declared.entry.Verdict.TheVariants.{Accepted, Refused}
use Rattle.policy_audit.specs.Rules.{rule_line}
use Rattle.pg_archive.specs.Texts.{quoted, truth_text, list_text, pid_text, group_text, update_text, frame_text}

-- what an accepted event is answered, but for the brace behind it
abbrev pub reply_fields : Reply → List ℕ
reply_fields reply.Done = codes "{\"ok\":true"
reply_fields (reply.Pid p) = codes "{\"pid\":" ++ pid_text p
reply_fields (reply.Link number) = codes "{\"link\":" ++ decimal number
reply_fields (reply.Up peer creation visible) = codes "{\"up\":" ++ quoted peer
    ++ codes ",\"creation\":"
    ++ decimal creation ++ codes ",\"visible\":" ++ truth_text visible
reply_fields (reply.Pids pids) = codes "{\"pids\":" ++ list_text pid_text pids
reply_fields (reply.Groups groups) = codes "{\"groups\":" ++ list_text quoted groups
reply_fields (reply.Ref number pids) = codes "{\"ref\":" ++ decimal number ++ codes ",\"pids\":"
    ++ list_text pid_text pids
reply_fields (reply.ScopeRef number groups) = codes "{\"ref\":" ++ decimal number
    ++ codes ",\"groups\":"
    ++ list_text group_text groups
reply_fields (reply.Updates updates) = codes "{\"updates\":" ++ list_text update_text updates
reply_fields (reply.Out frames) = codes "{\"out\":" ++ list_text frame_text frames

-- the rule by its number and its name
abbrev pub rule_fields : Rule → List ℕ
rule_fields rule = codes "\"refused\",\"rule\":" ++ decimal (rule_line rule).0
    ++ codes ",\"name\":\""
    ++ (rule_line rule).1 ++ codes "\""

abbrev pub accepted_fields : Reply → List ℕ
accepted_fields reply = codes "\"accepted\",\"reply\":" ++ reply_fields reply ++ codes "}"

abbrev pub verdict_text : Verdict → List ℕ
verdict_text (Accepted reply) = accepted_fields reply
verdict_text (Refused rule) = rule_fields rule
