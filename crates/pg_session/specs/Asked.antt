-- What a line asks of a node.
use Rattle.std.specs.Prelude.{◌≡◌, ℕ, ◌==◌, Bool, true, false, ◌||◌, cond, List, [], ◌∷◌, Option, Some, None, codes}
use Rattle.std.specs.Option.{option_and_then}
use Rattle.std.specs.Str.{bytes_eq}
use Rattle.policy_audit.specs.declared.event.Event.{Event}
use Rattle.policy_audit.specs.declared.event.Event.TheVariants as event
use Rattle.node_core.specs.Calm.{is_query}
use Rattle.pg_text.specs.declared.command.Command.{Command}
use Rattle.pg_text.specs.declared.command.Command.TheVariants as command
use Rattle.pg_text.specs.Commands.{said_by}
use Rattle.pg_session.specs.declared.request.Request.{Request}
use Rattle.pg_session.specs.declared.request.Request.TheVariants as request
use Rattle.pg_session.specs.declared.surroundings.Report.{Report}
use Rattle.pg_session.specs.declared.surroundings.Report.TheVariants as reports
use Rattle.pg_session.specs.declared.surroundings.Change.{Change}
use Rattle.pg_session.specs.declared.surroundings.Change.TheVariants as changes
use Rattle.pg_session.specs.declared.answered.Next.{Next}
use Rattle.pg_session.specs.declared.answered.Next.TheVariants as next
use Rattle.pg_text.specs.Lines.{is_quiet, words_of}

-- a connection may make this call by a line: it speaks for no link, ends no life of the node, and
-- isn't asked unasked or without an entry
abbrev pub is_call : Event → Bool
is_call (event.SetCookie c) = true
is_call (event.SetCookieFor n c) = true
is_call (event.Allow ns) = true
is_call (event.StartScope s) = true
is_call (event.StopScope s) = true
is_call event.Spawn = true
is_call (event.Exit p) = true
is_call (event.Join s g ps) = true
is_call (event.Leave s g ps) = true
is_call (event.Monitor s g) = true
is_call (event.MonitorScope s) = true
is_call (event.Demonitor k) = true
is_call (event.Disconnect n) = true
is_call e = false

abbrev pub is_fetch : Event → Bool
is_fetch (event.Updates k) = true
is_fetch e = false

-- a call that ends a monitor
abbrev pub is_demonitor : Event → Bool
is_demonitor (event.Demonitor k) = true
is_demonitor e = false

-- a call that ends the monitor of this number
abbrev pub ends : ℕ → Event → Bool
ends k (event.Demonitor n) = n == k
ends k e = false

-- a call that ends a process or a monitor
abbrev pub is_end : Event → Bool
is_end (event.Exit p) = true
is_end e = is_demonitor e

-- a call that is asked for is such a call
abbrev pub IsAsked : Request → Type 0
IsAsked (request.Call e) = is_call e ≡ true
IsAsked r = Unit {0}

-- by a line, or to tell what its monitors see
abbrev pub is_made : Event → Bool
is_made e = is_fetch e || is_call e

abbrev pub asked_of_event : Event → Option Request
asked_of_event e = cond (is_query e) (Some (request.Query e))
    (cond (is_call e) (Some (request.Call e)) None)

abbrev pub asked_of : Command → Option Request
asked_of (command.Step e) = asked_of_event e
asked_of command.Size = Some request.Size
asked_of (command.Audit k) = Some (request.Audit k)
asked_of (command.Seat k) = None

-- what a line asks to be told of the node beside its rows
abbrev pub report_of : List ℕ → Option Report
report_of line =
    cond (bytes_eq line (codes "self")) (Some reports.Own)
    (cond (bytes_eq line (codes "status")) (Some reports.Status)
    (cond (bytes_eq line (codes "links")) (Some reports.Links)
    (cond (bytes_eq line (codes "dials")) (Some reports.Dials)
    (cond (bytes_eq line (codes "scopes")) (Some reports.Scopes)
    (cond (bytes_eq line (codes "allowed")) (Some reports.Allowed)
    (cond (bytes_eq line (codes "clients")) (Some reports.Clients)
    (cond (bytes_eq line (codes "refusals")) (Some reports.Refusals)
    None)))))))

-- which change beside the node a line of these words asks for, whatever stands behind the first
abbrev pub change_of : List (List ℕ) → Option Change
change_of [] = None
change_of (name ∷ words) =
    cond (bytes_eq name (codes "dial")) (Some changes.Dial)
    (cond (bytes_eq name (codes "undial")) (Some changes.Undial)
    (cond (bytes_eq name (codes "reopen")) (Some changes.Reopen)
    None))

-- that, or a command of the console that asks for nothing else than a connection may
abbrev pub asked_changing : Option Change → List ℕ → Option Request
asked_changing (Some change) line = Some (request.Change change)
asked_changing None line = option_and_then asked_of (said_by line)

-- a report, or one of these
abbrev pub asked_beside : Option Report → List ℕ → Option Request
asked_beside (Some report) line = Some (request.Report report)
asked_beside None line = asked_changing (change_of (words_of line)) line

-- `nodes`, `help`, `quit`, `drain`, or one of these
abbrev pub asked_by : List ℕ → Option Request
asked_by line =
    cond (bytes_eq line (codes "nodes")) (Some request.Nodes)
    (cond (bytes_eq line (codes "help")) (Some request.Help)
    (cond (bytes_eq line (codes "quit")) (Some request.Quit)
    (cond (bytes_eq line (codes "drain")) (Some request.Drain)
    (asked_beside (report_of line) line))))

-- the program ends behind `quit` and `drain`, and goes on behind each other request
abbrev pub next_after : Option Request → Next
next_after (Some request.Quit) = next.Quit
next_after (Some request.Drain) = next.Drain
next_after r = next.Line

-- and behind an empty line or a comment
abbrev pub next_behind : List ℕ → Next
next_behind line = cond (is_quiet line) next.Line (next_after (asked_by line))
