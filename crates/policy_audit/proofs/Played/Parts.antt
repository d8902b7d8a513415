-- Messages in parts between nodes that know version 2, computed from the policy.
use Rattle.policy_audit.proofs
use proofs.Words.{codes, Event, List, Reply, Rule, ◌++◌, ◌∷◌, []}
use proofs.Lines.{a_pid, a_proved, ack, b_pid, breaks, came, challenge, done, frame, g, gives, Line}
use proofs.Lines.{members, message, ok, pg, takes}

-- link 1 to a@h, which knows version 2, is up
abbrev up_by_2 : List Line
up_by_2 =
    gives (Event.Opened 123) (Reply.Link 1)
    ∷ done (came 1 "4e000000000100000100000005000361406802")
    ∷ takes 1 (ok
    ∷ frame "4e00000000010000010000007b00000004000362406802" ∷ [])
    ∷ a_proved 1 ∷ []

abbrev parts_of_a_sync : List Line
parts_of_a_sync =
    up_by_2
    ++ done (Event.StartScope pg)
    ∷ takes 1 (ack
    ∷ message "44027067" ∷ [])
    ∷ breaks (came 1 "5302706700000000") Rule.BadFrame
    ∷ done (came 1 "5302706700000001000000000101670003614068000000050000000000000001")
    ∷ members []
    ∷ done (came 1 "5302706700000002010000000101670003614068000000050000000000000002")
    ∷ members (a_pid 1 ∷ a_pid 2 ∷ [])
    ∷ breaks (came 1 "5302706700000002010000000101670003614068000000050000000000000002")
    Rule.PartOrder ∷ []

-- Of a part with several faults the first rule is named. A refused part is as if it hadn't come.
abbrev order_of_part_rules : List Line
order_of_part_rules =
    up_by_2
    ++ breaks (came 1 "5302706700000002010000000101670003614068000000050000000000000002")
    Rule.NoScope
    ∷ done (Event.StartScope pg)
    ∷ breaks (came 1 "4a02706700000002010000000101670003614068000000040000000000000001")
    Rule.NotHeard
    ∷ breaks (came 1 "5302706700000002010000000101670003614068000000040000000000000001")
    Rule.PartOrder
    ∷ done (came 1 "53027067000000010100000000")
    ∷ breaks (came 1 "4a02706700000002010000000101670003614068000000040000000000000001")
    Rule.PartOrder
    ∷ breaks (came 1 "4a02706700000001000000000101670003614068000000040000000000000001")
    Rule.ForeignPid
    ∷ breaks (came 1 "4a02706700000002010000000101670003614068000000050000000000000001")
    Rule.PartOrder
    ∷ done (came 1 "4a02706700000001000000000101670003614068000000050000000000000001")
    ∷ breaks (came 1 "4c02706700000002010000000101670003614068000000050000000000000002")
    Rule.PartOrder
    ∷ breaks (came 1 "4a02706700000003010000000101670003614068000000050000000000000002")
    Rule.PartOrder
    ∷ members []
    ∷ done (came 1 "4a02706700000002010000000101670003614068000000050000000000000002")
    ∷ members (a_pid 1 ∷ a_pid 2 ∷ [])
    ∷ done (came 1 "4c02706700000001000000000101670003614068000000050000000000000001")
    ∷ breaks (came 1 "4c02706700000002010000000101670003614068000000050000000000000001")
    Rule.NotListed
    ∷ done (came 1 "4c02706700000002010000000101670003614068000000050000000000000002")
    ∷ gives (Event.Groups pg) (Reply.Groups []) ∷ []

-- An accepted frame of the link and a stop of its scope break a message off; a stop of another
-- scope doesn't.
abbrev broken_off : List Line
broken_off =
    up_by_2
    ++ done (Event.StartScope pg)
    ∷ done (Event.StartScope (codes "q"))
    ∷ done (came 1 "5302706700000001000000000101670003614068000000050000000000000001")
    ∷ done (came 1 "440171")
    ∷ breaks (came 1 "5302706700000002010000000101670003614068000000050000000000000002")
    Rule.PartOrder
    ∷ done (came 1 "5302706700000001000000000101670003614068000000050000000000000001")
    ∷ done (Event.StopScope pg)
    ∷ done (Event.StartScope pg)
    ∷ breaks (came 1 "5302706700000002010000000101670003614068000000050000000000000002")
    Rule.PartOrder
    ∷ done (came 1 "5302706700000001000000000101670003614068000000050000000000000001")
    ∷ done (Event.StopScope (codes "q"))
    ∷ done (came 1 "5302706700000002010000000101670003614068000000050000000000000002")
    ∷ members (a_pid 1 ∷ a_pid 2 ∷ []) ∷ []

-- What is owed there is written in parts.
abbrev told_in_parts : List Line
told_in_parts =
    up_by_2
    ++ done (Event.StartScope pg)
    ∷ gives Event.Spawn (Reply.Pid (b_pid 1))
    ∷ done (came 1 "44027067")
    ∷ done (Event.Join pg g (b_pid 1 ∷ []))
    ∷ done (Event.Exit (b_pid 1))
    ∷ takes 1 (ack
    ∷ message "44027067"
    ∷ message "53027067000000010100000000"
    ∷ message "44027067"
    ∷ message "4a02706700000001010000000101670003624068000000040000000000000001"
    ∷ message "4c02706700000001010000000101670003624068000000040000000000000001"
    ∷ []) ∷ []

-- A link of version 1, once it is up: parts are no messages there, and none are owed.
abbrev spoken_to_as_ever : List Line
spoken_to_as_ever =
    a_proved 1
    ∷ done (Event.StartScope pg)
    ∷ breaks (came 1 "53027067000000010100000000") Rule.BadFrame
    ∷ done (came 1 "5302706700000000")
    ∷ done (came 1 "44027067")
    ∷ takes 1 (ack
    ∷ message "44027067"
    ∷ message "5302706700000000" ∷ []) ∷ []

-- a peer that says nothing of version 2 to a node that knows it
abbrev old_peer : List Line
old_peer =
    gives (Event.Opened 123) (Reply.Link 1)
    ∷ done (came 1 "4e0000000001000001000000050003614068")
    ∷ takes 1 (ok
    ∷ frame "4e00000000010000010000007b00000004000362406802" ∷ [])
    ∷ spoken_to_as_ever

-- a peer that says version 2 to a node that doesn't know it
abbrev pub new_peer : List Line
new_peer =
    gives (Event.Opened 123) (Reply.Link 1)
    ∷ done (came 1 "4e000000000100000100000005000361406802")
    ∷ takes 1 (ok
    ∷ challenge ∷ [])
    ∷ spoken_to_as_ever

abbrev pub scripts : List (List Line)
scripts = parts_of_a_sync ∷ order_of_part_rules ∷ broken_off ∷ told_in_parts ∷ old_peer ∷ []
