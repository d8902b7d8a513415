-- Events as fields of a line. No cookie is told.
use Rattle.std.specs.Prelude.{ℕ, List, [], ◌++◌, codes, decimal}
use Rattle.policy_audit.specs.declared.event.Event.{Event}
use Rattle.policy_audit.specs.declared.event.Event.TheVariants as event
use Rattle.pg_text.specs.Kinds.{kind_text}
use Rattle.pg_archive.specs.declared.asked.Asked.{Asked}
use Rattle.pg_archive.specs.declared.asked.Asked.TheVariants as asked
use Rattle.pg_archive.specs.declared.asked.Told.{Told}
use Rattle.pg_archive.specs.Texts.{quoted, hex_text, list_text, pid_text}

abbrev pub scope_field : List ℕ → List ℕ
scope_field scope = codes ",\"scope\":" ++ quoted scope

abbrev pub place_fields : List ℕ → List ℕ → List ℕ
place_fields scope group = scope_field scope ++ codes ",\"group\":" ++ quoted group

abbrev pub peer_field : List ℕ → List ℕ
peer_field peer = codes ",\"peer\":" ++ quoted peer

abbrev pub link_field : ℕ → List ℕ
link_field link = codes ",\"link\":" ++ decimal link

abbrev pub ref_field : ℕ → List ℕ
ref_field number = codes ",\"ref\":" ++ decimal number

abbrev pub challenge_field : ℕ → List ℕ
challenge_field challenge = codes ",\"challenge\":" ++ decimal challenge

abbrev pub dial_fields : List ℕ → ℕ → List ℕ
dial_fields peer challenge = codes ",\"peer\":" ++ quoted peer ++ codes ",\"challenge\":"
    ++ decimal challenge

abbrev pub frame_fields : ℕ → List ℕ → List ℕ
frame_fields link body = codes ",\"link\":" ++ decimal link ++ codes ",\"body\":" ++ hex_text body

-- the arguments of an event, but for a cookie
abbrev pub arguments_text : Event → List ℕ
arguments_text event.Restart = []
arguments_text (event.SetCookie c) = []
arguments_text (event.SetCookieFor n c) = peer_field n
arguments_text (event.Allow ns) = codes ",\"names\":" ++ list_text quoted ns
arguments_text (event.StartScope s) = scope_field s
arguments_text (event.StopScope s) = scope_field s
arguments_text event.Spawn = []
arguments_text (event.Exit p) = codes ",\"pid\":" ++ pid_text p
arguments_text (event.Join s g ps) = place_fields s g ++ codes ",\"pids\":" ++ list_text pid_text ps
arguments_text (event.Leave s g ps) = place_fields s g ++ codes ",\"pids\":"
    ++ list_text pid_text ps
arguments_text (event.Members s g) = place_fields s g
arguments_text (event.LocalMembers s g) = place_fields s g
arguments_text (event.Groups s) = scope_field s
arguments_text (event.LocalGroups s) = scope_field s
arguments_text (event.Monitor s g) = place_fields s g
arguments_text (event.MonitorScope s) = scope_field s
arguments_text (event.Demonitor k) = ref_field k
arguments_text (event.Updates k) = ref_field k
arguments_text (event.Dial n c) = dial_fields n c
arguments_text (event.Opened c) = challenge_field c
arguments_text (event.Lost l) = link_field l
arguments_text (event.Take l) = link_field l
arguments_text (event.Disconnect n) = peer_field n
arguments_text (event.Frame l body) = frame_fields l body

-- the kind of an event, and its arguments
abbrev pub event_text : Event → List ℕ
event_text e = codes "\"" ++ kind_text e ++ codes "\"" ++ arguments_text e

-- the same of what a line tells of an event
abbrev pub asked_text : Asked → List ℕ
asked_text asked.SetCookie = codes "\"SetCookie\""
asked_text (asked.SetCookieFor n) = codes "\"SetCookieFor\"" ++ peer_field n
asked_text (asked.Event e) = event_text e

-- the fields before the verdict: the number, the seat, and the event
unfoldable pub head_text : ℕ → ℕ → List ℕ → List ℕ
head_text number seat event = codes "{\"entry\":" ++ decimal number ++ codes ",\"seat\":"
    ++ decimal seat
    ++ codes ",\"event\":" ++ event ++ codes ",\"verdict\":"

abbrev pub told_head : Told → List ℕ
told_head t = head_text t.number t.seat (asked_text t.asked)
