-- Links, who may connect, and limits, computed from the policy.
use Rattle.policy_audit.proofs
use proofs.Words.{Event, List, Reply, Rule, true, ◌++◌, ◌∷◌, []}
use proofs.Lines.{a_h, a_named, a_pid, a_proved, a_up, ack, b_h, b_pid, breaks, c_h, came}
use proofs.Lines.{challenge, done, frame, g, gives, Line, members, message, ok, openings, pg, pid}
use proofs.Lines.{takes, z_h}

abbrev pub replaced_link : List Line
replaced_link =
    a_up 1
    ++ done (Event.StartScope pg)
    ∷ done (came 1 "530270670000000101670003614068000000050000000000000001")
    ∷ members (a_pid 1 ∷ [])
    ∷ a_named 9
    ++ takes 9 (frame "73616c697665" ∷ [])
    ∷ done (came 9 "7374727565")
    ∷ takes 9 (challenge ∷ [])
    ∷ breaks (came 9 "7200000001482c811da5d5b4bc6d497ffa98491e39") Rule.BadDigest
    ∷ members (a_pid 1 ∷ [])
    ∷ a_named 16
    ++ done (came 16 "7374727565")
    ∷ a_proved 16
    ∷ members []
    ∷ breaks (came 1 "44027067") Rule.NoSuchLink
    ∷ takes 16 (frame "73616c697665"
    ∷ challenge
    ∷ ack ∷ message "44027067" ∷ []) ∷ []

abbrev pub two_links_of_one_peer : List Line
two_links_of_one_peer =
    a_up 1
    ++ a_named 6
    ++ takes 6 (frame "73616c697665" ∷ [])
    ∷ done (came 6 "7374727565")
    ∷ breaks (came 6 "7200000001482c811da5d5b4bc6d497ffa98491e39") Rule.BadDigest
    ∷ a_named 11
    ++ done (came 11 "7374727565")
    ∷ a_proved 11
    ∷ breaks (came 1 "44027067") Rule.NoSuchLink
    ∷ takes 11 (frame "73616c697665"
    ∷ challenge
    ∷ ack ∷ []) ∷ []

abbrev pub dial_beside_an_open_link : List Line
dial_beside_an_open_link =
    a_named 1
    ++ gives (Event.Dial a_h 7) (Reply.Link 3)
    ∷ breaks (Event.Dial a_h 8) Rule.LinkPending
    ∷ a_proved 1
    ∷ takes 3 (frame "4e0000000001000001000000040003624068" ∷ [])
    ∷ breaks (came 3 "73616c697665") Rule.LinkUp
    ∷ takes 3 (frame "7366616c7365" ∷ [])
    ∷ breaks (Event.Dial a_h 8) Rule.LinkUp
    ∷ breaks (Event.Dial b_h 8) Rule.OwnName ∷ []

-- A dial that ended by its own refused frame keeps its frames when its peer connects.
abbrev pub ended_dial_keeps_its_frames : List Line
ended_dial_keeps_its_frames =
    gives (Event.Dial z_h 9) (Reply.Link 1)
    ∷ breaks (came 1 "736e6f6b") Rule.PeerSaid
    ∷ gives (Event.Opened 123) (Reply.Link 3)
    ∷ done (came 3 "4e00000000010000010000000500037a4068")
    ∷ gives (Event.Dial z_h 5) (Reply.Link 5)
    ∷ takes 1 (frame "4e0000000001000001000000040003624068" ∷ [])
    ∷ takes 3 (ok ∷ challenge
    ∷ [])
    ∷ gives (came 3 "7200000001482c811da5d5b4bc6d497ffa98491e38")
    (Reply.Up z_h 5 true)
    ∷ breaks (Event.Take 1) Rule.NoSuchLink
    ∷ takes 3 (ack ∷ []) ∷ []

abbrev pub disconnect : List Line
disconnect =
    a_up 1
    ++ done (Event.Disconnect a_h)
    ∷ breaks (came 1 "44027067") Rule.NoSuchLink ∷ []

abbrev pub disconnect_without_link : List Line
disconnect_without_link =
    breaks (Event.Disconnect a_h) Rule.NoLinkTo ∷ []

abbrev pub allow_list : List Line
allow_list =
    done (Event.Allow [])
    ∷ a_named 2
    ++ done (Event.Allow (c_h ∷ []))
    ∷ a_proved 2
    ∷ gives (Event.Opened 9) (Reply.Link 6)
    ∷ breaks (came 6 "4e0000000001000001000000050003614068") Rule.NotAllowed
    ∷ takes 6 (frame "736e6f745f616c6c6f776564" ∷ [])
    ∷ breaks (Event.Take 6) Rule.NoSuchLink
    ∷ breaks (Event.Dial a_h 9) Rule.NotAllowed ∷ []

abbrev pub allow_list_keeps_the_link : List Line
allow_list_keeps_the_link = allow_list ++ done (Event.Disconnect a_h) ∷ []

abbrev pub half_open_links : List Line
half_open_links =
    done (Event.Allow (c_h ∷ []))
    ∷ openings 64 2
    ++ breaks (came 2 "4e0000000001000001000000050003614068") Rule.NotAllowed
    ∷ breaks (Event.Opened 1) Rule.LinksFull
    ∷ takes 2 (frame "736e6f745f616c6c6f776564" ∷ [])
    ∷ gives (Event.Opened 1) (Reply.Link 69)
    ∷ breaks (Event.Dial c_h 1) Rule.LinksFull ∷ []

abbrev pub restart : List Line
restart =
    gives Event.Spawn (Reply.Pid (b_pid 1))
    ∷ done Event.Restart
    ∷ gives Event.Spawn (Reply.Pid (pid b_h 5 1))
    ∷ done (Event.StartScope pg)
    ∷ breaks (Event.Join pg g (b_pid 1 ∷ [])) Rule.NotLocal
    ∷ breaks (Event.Join pg g (pid b_h 5 9 ∷ [])) Rule.NoProcess ∷ []

-- A restart drops the frames of links that have ended.
abbrev pub restart_drops_frames : List Line
restart_drops_frames =
    a_named 1
    ++ breaks (came 1 "7200000001e99a18c428cb38d5f260853678922e03") Rule.BadDigest
    ∷ done Event.Restart
    ∷ breaks (Event.Take 1) Rule.NoSuchLink
    ∷ breaks (Event.Lost 1) Rule.NoSuchLink ∷ []

abbrev pub entry_limit : List Line
entry_limit =
    gives Event.Spawn (Reply.Pid (b_pid 1))
    ∷ gives Event.Spawn (Reply.Pid (b_pid 2))
    ∷ breaks Event.Spawn Rule.EntriesFull ∷ []

abbrev pub creation_spent : List Line
creation_spent =
    breaks Event.Restart Rule.CreationSpent ∷ []

abbrev pub scripts : List (List Line)
scripts = replaced_link ∷ two_links_of_one_peer ∷ dial_beside_an_open_link
    ∷ ended_dial_keeps_its_frames ∷ disconnect ∷ disconnect_without_link ∷ allow_list
    ∷ allow_list_keeps_the_link ∷ half_open_links ∷ restart ∷ restart_drops_frames ∷ []
