-- The command that a line says.
use Rattle.std.specs.Prelude.{ℕ, cond, List, [], ◌∷◌, Option, Some, None, codes}
use Rattle.std.specs.Option.{option_map}
use Rattle.std.specs.Str.{bytes_eq}
use Rattle.dist_types.specs.Difference.{is_empty}
use Rattle.policy_audit.specs.declared.event.Event.{Event}
use Rattle.policy_audit.specs.declared.event.Event.TheVariants as events
use Rattle.pg_text.specs.declared.command.Command.{Command}
use Rattle.pg_text.specs.declared.command.Command.TheVariants as commands
use Rattle.pg_text.specs.Lines.{words_of}
use Rattle.pg_text.specs.Words.{number_of, text_of, name_of, pid_of, body_of}
use Rattle.pg_text.specs.Arguments.{only, both, each, named}

-- a command with no word behind it
abbrev pub alone : Command → List (List ℕ) → Option Command
alone command words = cond (is_empty words) (Some command) None

-- an event, made of what the words say
abbrev pub event : {A : Type 0} → (A → Event) → Option A → Option Command
event made said = option_map (λ x. commands.Step (made x)) said

-- `seat K`, `size`, `audit K`
abbrev pub console_command : List ℕ → List (List ℕ) → Option Command
console_command name words =
    cond (bytes_eq name (codes "seat")) (option_map commands.Seat (only number_of words))
    (cond (bytes_eq name (codes "size")) (alone commands.Size words)
    (cond (bytes_eq name (codes "audit")) (option_map commands.Audit (only number_of words))
    None))

-- `dial N CH`, `opened CH`, `lost L`, `take L`, `disconnect N`, `frame L HEX`, or a command of the
-- console
abbrev pub link_command : List ℕ → List (List ℕ) → Option Command
link_command name words =
    cond (bytes_eq name (codes "dial")) (event (λ said. events.Dial said.0 said.1)
    (both name_of number_of words))
    (cond (bytes_eq name (codes "opened")) (event events.Opened (only number_of words))
    (cond (bytes_eq name (codes "lost")) (event events.Lost (only number_of words))
    (cond (bytes_eq name (codes "take")) (event events.Take (only number_of words))
    (cond (bytes_eq name (codes "disconnect")) (event events.Disconnect (only name_of words))
    (cond (bytes_eq name (codes "frame")) (event (λ said. events.Frame said.0 said.1)
    (both number_of body_of words))
    (console_command name words))))))

-- `monitor S G`, `monitor_scope S`, `demonitor R`, `updates R`, or a command on links
abbrev pub monitor_command : List ℕ → List (List ℕ) → Option Command
monitor_command name words =
    cond (bytes_eq name (codes "monitor")) (event (λ said. events.Monitor said.0 said.1)
    (both text_of text_of words))
    (cond (bytes_eq name (codes "monitor_scope")) (event events.MonitorScope (only text_of words))
    (cond (bytes_eq name (codes "demonitor")) (event events.Demonitor (only number_of words))
    (cond (bytes_eq name (codes "updates")) (event events.Updates (only number_of words))
    (link_command name words))))

-- `members S G`, `local_members S G`, `groups S`, `local_groups S`, or a command on monitors
abbrev pub query_command : List ℕ → List (List ℕ) → Option Command
query_command name words =
    cond (bytes_eq name (codes "members")) (event (λ said. events.Members said.0 said.1)
    (both text_of text_of words))
    (cond (bytes_eq name (codes "local_members"))
    (event (λ said. events.LocalMembers said.0 said.1) (both text_of text_of words))
    (cond (bytes_eq name (codes "groups")) (event events.Groups (only text_of words))
    (cond (bytes_eq name (codes "local_groups")) (event events.LocalGroups (only text_of words))
    (monitor_command name words))))

-- `start S`, `stop S`, `spawn`, `exit P`, `join S G P..`, `leave S G P..`, or a query
abbrev pub scope_command : List ℕ → List (List ℕ) → Option Command
scope_command name words =
    cond (bytes_eq name (codes "start")) (event events.StartScope (only text_of words))
    (cond (bytes_eq name (codes "stop")) (event events.StopScope (only text_of words))
    (cond (bytes_eq name (codes "spawn")) (alone (commands.Step events.Spawn) words)
    (cond (bytes_eq name (codes "exit")) (event events.Exit (only pid_of words))
    (cond (bytes_eq name (codes "join")) (event (λ said. events.Join said.0 said.1 said.2)
    (named words))
    (cond (bytes_eq name (codes "leave")) (event (λ said. events.Leave said.0 said.1 said.2)
    (named words))
    (query_command name words))))))

-- `restart`, `cookie C`, `cookie_for N C`, `allow N..`, or a command on scopes
abbrev pub node_command : List ℕ → List (List ℕ) → Option Command
node_command name words =
    cond (bytes_eq name (codes "restart")) (alone (commands.Step events.Restart) words)
    (cond (bytes_eq name (codes "cookie")) (event events.SetCookie (only text_of words))
    (cond (bytes_eq name (codes "cookie_for"))
    (event (λ said. events.SetCookieFor said.0 said.1) (both name_of text_of words))
    (cond (bytes_eq name (codes "allow")) (event events.Allow (each name_of words))
    (scope_command name words))))

-- by the first word
abbrev pub command_of : List (List ℕ) → Option Command
command_of [] = None
command_of (name ∷ words) = node_command name words

-- what a line that is not quiet says, if it can be read
abbrev pub said_by : List ℕ → Option Command
said_by line = command_of (words_of line)
