-- The kinds of events, as an answer names them. No argument of an event is told.
use Rattle.std.specs.Prelude.{ℕ, List, codes}
use Rattle.policy_audit.specs.declared.event.Event.{Event}
use Rattle.policy_audit.specs.declared.event.Event.TheVariants as event

abbrev pub kind_text : Event → List ℕ
kind_text event.Restart = codes "Restart"
kind_text (event.SetCookie c) = codes "SetCookie"
kind_text (event.SetCookieFor n c) = codes "SetCookieFor"
kind_text (event.Allow ns) = codes "Allow"
kind_text (event.StartScope s) = codes "StartScope"
kind_text (event.StopScope s) = codes "StopScope"
kind_text event.Spawn = codes "Spawn"
kind_text (event.Exit p) = codes "Exit"
kind_text (event.Join s g ps) = codes "Join"
kind_text (event.Leave s g ps) = codes "Leave"
kind_text (event.Members s g) = codes "Members"
kind_text (event.LocalMembers s g) = codes "LocalMembers"
kind_text (event.Groups s) = codes "Groups"
kind_text (event.LocalGroups s) = codes "LocalGroups"
kind_text (event.Monitor s g) = codes "Monitor"
kind_text (event.MonitorScope s) = codes "MonitorScope"
kind_text (event.Demonitor k) = codes "Demonitor"
kind_text (event.Updates k) = codes "Updates"
kind_text (event.Dial n c) = codes "Dial"
kind_text (event.Opened c) = codes "Opened"
kind_text (event.Lost l) = codes "Lost"
kind_text (event.Take l) = codes "Take"
kind_text (event.Disconnect n) = codes "Disconnect"
kind_text (event.Frame l body) = codes "Frame"
