-- What a connection may ask for, by the socket that it has come over.
use Rattle.std.specs.Prelude.{Bool, true, false, Option, Some, None}
use Rattle.policy_audit.specs.declared.event.Event.{Event}
use Rattle.policy_audit.specs.declared.event.Event.TheVariants as event
use Rattle.pg_session.specs.declared.request.Request.{Request}
use Rattle.pg_session.specs.declared.request.Request.TheVariants as request
use Rattle.pg_session.specs.declared.rights.Rights.{Rights}
use Rattle.pg_session.specs.declared.rights.Rights.TheVariants as rights

-- a call that only begins or ends a monitor
abbrev pub watches : Event → Bool
watches (event.Monitor s g) = true
watches (event.MonitorScope s) = true
watches (event.Demonitor k) = true
watches e = false

-- where only reads are, nothing is changed but what the connection watches, and the program goes on
abbrev pub allows : Rights → Request → Bool
allows rights.All r = true
allows rights.Reads (request.Call e) = watches e
allows rights.Reads (request.Change change) = false
allows rights.Reads request.Quit = false
allows rights.Reads request.Drain = false
allows rights.Reads r = true

-- a line that asks for nothing is answered with its fault
abbrev pub allows_asked : Rights → Option Request → Bool
allows_asked rights None = true
allows_asked rights (Some r) = allows rights r
