-- The line that says whom the nodes of a world list.
use Rattle.std.specs.Prelude.{ℕ, cond, List, [], ◌++◌, codes, decimal, length}
use Rattle.std.specs.List.{flat_map}
use Rattle.dist_types.specs.declared.pid.Pid.{Pid}
use Rattle.policy_audit.specs.declared.reply.Reply.{Reply}
use Rattle.policy_audit.specs.declared.reply.Reply.TheVariants as reply
use Rattle.policy_audit.specs.History.{History}
use Rattle.policy_audit.specs.Own.{is_running}
use Rattle.policy_audit.specs.Contents.{members}
use Rattle.pg_text.specs.Answers.{spaced, pid_text}

-- the processes of an answer
abbrev pub pids_in : Reply → List Pid
pids_in (reply.Pids pids) = pids
pids_in r = []

-- the processes that a node lists in a group; none where the scope doesn't run
abbrev pub listed_by : List ℕ → List ℕ → History → List Pid
listed_by s g h = cond (is_running h s) (members h s g) []

-- a node, how many processes these are, and each
abbrev pub node_text : List ℕ → List Pid → List ℕ
node_text name pids = codes " " ++ name ++ codes ": " ++ decimal (length pids)
    ++ spaced pid_text pids

-- the same of those that a node lists
abbrev pub shown_text : List ℕ → List ℕ → History → List ℕ
shown_text s g h = node_text h.opening.name (listed_by s g h)

-- each node in order
abbrev pub shown_line : List ℕ → List ℕ → List History → List ℕ
shown_line s g hs = codes "show" ++ flat_map (shown_text s g) hs ++ codes "\n"
