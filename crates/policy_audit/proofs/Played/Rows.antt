-- Rows, messages and monitors, computed from the policy.
use Rattle.policy_audit.proofs
use proofs.Words.{codes, Event, false, List, Refused, Reply, Rule, true, ◌++◌, ◌∷◌, []}
use proofs.Lines.{a_h, a_named, a_pid, a_proved, a_up, ack, b_pid, breaks, by, c_h, came, challenge}
use proofs.Lines.{done, frame, g, gives, Line, members, message, ok, pg, takes}

abbrev pub own_rows : List Line
own_rows =
    done (Event.StartScope pg)
    ∷ gives Event.Spawn (Reply.Pid (b_pid 1))
    ∷ done (Event.Join pg g
    (b_pid 1 ∷ b_pid 1 ∷ []))
    ∷ gives (Event.Groups pg) (Reply.Groups (g ∷ []))
    ∷ gives (Event.LocalGroups pg) (Reply.Groups (g ∷ []))
    ∷ gives (Event.LocalMembers pg g)
    (Reply.Pids (b_pid 1 ∷ b_pid 1 ∷ []))
    ∷ done (Event.Leave pg g
    (b_pid 1 ∷ b_pid 1 ∷ b_pid 1 ∷ []))
    ∷ breaks (Event.Leave pg g (b_pid 1 ∷ [])) Rule.NotJoined
    ∷ breaks (Event.Leave pg g []) Rule.NotJoined
    ∷ done (Event.Join pg g [])
    ∷ gives (Event.Groups pg) (Reply.Groups []) ∷ []

-- The end of a process in several scopes and groups.
abbrev pub exit_over_scopes : List Line
exit_over_scopes =
    done (Event.StartScope (codes "q"))
    ∷ done (Event.StartScope pg)
    ∷ gives Event.Spawn (Reply.Pid (b_pid 1))
    ∷ gives Event.Spawn (Reply.Pid (b_pid 2))
    ∷ a_named 5
    ++ a_proved 5
    ∷ done (came 5 "44027067")
    ∷ done (came 5 "440171")
    ∷ done (Event.Join (codes "q") (codes "h") (b_pid 1 ∷ b_pid 2 ∷ []))
    ∷ done (Event.Join (codes "q") g (b_pid 1 ∷ b_pid 1 ∷ []))
    ∷ done (Event.Join pg (codes "z") (b_pid 1 ∷ []))
    ∷ done (Event.Exit (b_pid 1))
    ∷ takes 5 (ok ∷ challenge
    ∷ ack ∷ message "44027067"
    ∷ message "440171" ∷ message "5302706700000000" ∷ message "44027067"
    ∷ message "53017100000000" ∷ message "440171"
    ∷ message
    "4a0171000000020168000362406800000004000000000000000101680003624068000000040000000000000002"
    ∷ message
    "4a0171000000020167000362406800000004000000000000000101670003624068000000040000000000000001"
    ∷ message "4a02706700000001017a0003624068000000040000000000000001"
    ∷ message "4c02706700000001017a0003624068000000040000000000000001"
    ∷ message
    "4c017100000003016700036240680000000400000000000000010167000362406800000004000000000000000101680003624068000000040000000000000001"
    ∷ [])
    ∷ gives (Event.LocalGroups (codes "q")) (Reply.Groups (codes "h" ∷ []))
    ∷ breaks (Event.Join pg g (b_pid 1 ∷ [])) Rule.NoProcess
    ∷ breaks (Event.Leave pg (codes "z") (b_pid 1 ∷ [])) Rule.NotJoined
    ∷ done (Event.Leave (codes "q") (codes "h")
    (b_pid 1 ∷ b_pid 2 ∷ []))
    ∷ takes 5 (message "4c01710000000101680003624068000000040000000000000002" ∷ []) ∷ []

abbrev pub discover_and_sync : List Line
discover_and_sync =
    a_up 1
    ++ breaks (came 1 "44027067") Rule.NoScope
    ∷ done (Event.StartScope pg)
    ∷ takes 1 (message "44027067" ∷ [])
    ∷ done (came 1 "5302706700000000")
    ∷ done (came 1 "44027067")
    ∷ takes 1 (message "5302706700000000" ∷ []) ∷ []

abbrev pub joins_need_a_sync : List Line
joins_need_a_sync =
    a_up 1
    ++ done (Event.StartScope pg)
    ∷ breaks (came 1 "4a0270670000000101670003614068000000050000000000000001") Rule.NotHeard
    ∷ done (came 1 "5302706700000000")
    ∷ done (came 1 "4a0270670000000101670003614068000000050000000000000001")
    ∷ members (a_pid 1 ∷ [])
    ∷ done (came 1 "4a0270670000000101670003614068000000050000000000000001")
    ∷ members (a_pid 1 ∷ a_pid 1 ∷ []) ∷ []

abbrev pub foreign_and_missing_rows : List Line
foreign_and_missing_rows =
    a_up 1
    ++ done (Event.StartScope pg)
    ∷ breaks (came 1 "4a0270670000000101670003614068000000050000000000000001") Rule.NotHeard
    ∷ done (came 1 "5302706700000000")
    ∷ done (came 1 "4a0270670000000101670003614068000000050000000000000001")
    ∷ breaks (came 1 "4a0270670000000101670003614068000000040000000000000001")
    Rule.ForeignPid
    ∷ breaks (came 1 "4a0270670000000101670003634068000000050000000000000001")
    Rule.ForeignPid
    ∷ breaks (came 1 "4c0270670000000101670003614068000000050000000000000009")
    Rule.NotListed
    ∷ breaks (came 1
    "4c027067000000020167000361406800000005000000000000000101670003614068000000050000000000000001") Rule.NotListed
    ∷ members (a_pid 1 ∷ [])
    ∷ done (came 1 "4c0270670000000101670003614068000000050000000000000001")
    ∷ gives (Event.Groups pg) (Reply.Groups []) ∷ []

-- Of a message with several faults the first rule is named.
abbrev pub order_of_message_rules : List Line
order_of_message_rules =
    gives (Event.Opened 123) (Reply.Link 1)
    ∷ done (came 1 "4e0000000001000000000000050003614068")
    ∷ gives (came 1 "7200000001482c811da5d5b4bc6d497ffa98491e38")
    (Reply.Up a_h 5 false)
    ∷ done (Event.StartScope pg)
    ∷ breaks (came 1 "4a01710000000101670003614068000000050000000000000001") Rule.HiddenLink
    ∷ gives (Event.Opened 123) (Reply.Link 6)
    ∷ done (came 6 "4e0000000001000001000000050003634068")
    ∷ gives (came 6 "7200000001482c811da5d5b4bc6d497ffa98491e38")
    (Reply.Up c_h 5 true)
    ∷ breaks (came 6 "4a01710000000101670003614068000000050000000000000001") Rule.NoScope
    ∷ breaks (came 6 "4a0270670000000101670003614068000000050000000000000001") Rule.NotHeard
    ∷ breaks (came 6 "530270670000000101670003614068000000050000000000000001")
    Rule.ForeignPid
    ∷ breaks (came 6 "4a0270670000000101670003614068000000050000000000000001") Rule.NotHeard
    ∷ done (came 6 "5302706700000000")
    ∷ breaks (came 6 "4a0270670000000101670003614068000000050000000000000001")
    Rule.ForeignPid
    ∷ breaks (came 6 "4c0270670000000101670003614068000000050000000000000001")
    Rule.ForeignPid
    ∷ breaks (came 6 "4a02706700000000") Rule.BadFrame
    ∷ breaks (came 6 "530270670000000000") Rule.BadFrame ∷ []

abbrev pub told_peers : List Line
told_peers =
    a_up 1
    ++ done (Event.StartScope pg)
    ∷ gives Event.Spawn (Reply.Pid (b_pid 1))
    ∷ done (came 1 "44027067")
    ∷ takes 1 (message "44027067" ∷ message "5302706700000000"
    ∷ message "44027067" ∷ [])
    ∷ done (Event.Join pg g
    (b_pid 1 ∷ b_pid 1 ∷ []))
    ∷ takes 1 (message
    "4a027067000000020167000362406800000004000000000000000101670003624068000000040000000000000001"
    ∷ [])
    ∷ done (Event.Exit (b_pid 1))
    ∷ takes 1 (message
    "4c027067000000020167000362406800000004000000000000000101670003624068000000040000000000000001"
    ∷ [])
    ∷ breaks (Event.Exit (b_pid 1)) Rule.NoProcess
    ∷ breaks (Event.Exit (a_pid 1)) Rule.NotLocal
    ∷ done (Event.StopScope pg)
    ∷ takes 1 (message "58027067" ∷ [])
    ∷ breaks (Event.StopScope pg) Rule.NoScope
    ∷ done (Event.StartScope pg)
    ∷ breaks (Event.StartScope pg) Rule.ScopeRunning ∷ []

-- A scope stops and starts under a peer that was told and heard.
abbrev pub stop_and_start : List Line
stop_and_start =
    done (Event.StartScope pg)
    ∷ gives Event.Spawn (Reply.Pid (b_pid 1))
    ∷ a_named 3
    ++ a_proved 3
    ∷ done (came 3 "44027067")
    ∷ done (came 3 "530270670000000101670003614068000000050000000000000001")
    ∷ done (Event.Join pg g (b_pid 1 ∷ []))
    ∷ gives (Event.MonitorScope pg)
    (Reply.ScopeRef 9 (record {
      group = g;
      pids = (a_pid 1 ∷ b_pid 1 ∷ []);
    } ∷ []))
    ∷ takes 3 (ok ∷ challenge
    ∷ ack ∷ message "44027067"
    ∷ message "5302706700000000" ∷ message "44027067"
    ∷ message "4a0270670000000101670003624068000000040000000000000001" ∷ [])
    ∷ done (Event.StopScope pg)
    ∷ breaks (Event.Members pg g) Rule.NoScope
    ∷ breaks (came 3 "4a0270670000000101670003614068000000050000000000000001") Rule.NoScope
    ∷ breaks (came 3 "44027067") Rule.NoScope
    ∷ done (Event.StartScope pg)
    ∷ members []
    ∷ breaks (came 3 "4a0270670000000101670003614068000000050000000000000001") Rule.NotHeard
    ∷ breaks (came 3 "4c0270670000000101670003614068000000050000000000000001") Rule.NotHeard
    ∷ done (Event.Join pg g (b_pid 1 ∷ []))
    ∷ takes 3 (message "58027067" ∷ message "44027067" ∷ [])
    ∷ breaks (Event.Updates 9) Rule.NoMonitor
    ∷ done (came 3 "44027067")
    ∷ done (Event.Join pg g (b_pid 1 ∷ []))
    ∷ done (came 3
    "53027067000000020167000361406800000005000000000000000101670003614068000000050000000000000001")
    ∷ done (came 3 "4a0270670000000101670003614068000000050000000000000001")
    ∷ done (came 3
    "4c027067000000020167000361406800000005000000000000000101670003614068000000050000000000000001")
    ∷ members (a_pid 1 ∷ b_pid 1 ∷ b_pid 1 ∷ [])
    ∷ takes 3 (message "530270670000000101670003624068000000040000000000000001"
    ∷ message "44027067"
    ∷ message "4a0270670000000101670003624068000000040000000000000001" ∷ [])
    ∷ done (Event.Leave pg g
    (b_pid 1 ∷ b_pid 1 ∷ b_pid 1 ∷ []))
    ∷ done (Event.Exit (b_pid 1))
    ∷ takes 3 (message
    "4c027067000000020167000362406800000004000000000000000101670003624068000000040000000000000001"
    ∷ []) ∷ []

-- A stop owes a Down to each visible link, told or not.
abbrev pub stop_tells_visible_links : List Line
stop_tells_visible_links =
    done (Event.StartScope pg)
    ∷ a_named 2
    ++ a_proved 2
    ∷ gives (Event.Opened 123) (Reply.Link 5)
    ∷ done (came 5 "4e0000000001000000000000050003634068")
    ∷ gives (came 5 "7200000001482c811da5d5b4bc6d497ffa98491e38")
    (Reply.Up c_h 5 false)
    ∷ done (Event.StopScope pg)
    ∷ takes 2 (ok ∷ challenge
    ∷ ack ∷ message "44027067"
    ∷ message "58027067" ∷ [])
    ∷ takes 5 (ok ∷ challenge
    ∷ ack ∷ []) ∷ []

abbrev pub hidden_link : List Line
hidden_link =
    gives (Event.Opened 123) (Reply.Link 1)
    ∷ done (came 1 "4e0000000001000000000000050003614068")
    ∷ gives (came 1 "7200000001482c811da5d5b4bc6d497ffa98491e38")
    (Reply.Up a_h 5 false)
    ∷ done (Event.StartScope pg)
    ∷ breaks (came 1 "44027067") Rule.HiddenLink
    ∷ takes 1 (ok ∷ challenge
    ∷ ack ∷ []) ∷ []

-- A hidden node takes no part in groups over links.
abbrev pub hidden_node : List Line
hidden_node =
    done (Event.StartScope pg)
    ∷ a_named 2
    ++ gives (came 2 "7200000001482c811da5d5b4bc6d497ffa98491e38")
    (Reply.Up a_h 5 false)
    ∷ takes 2 (ok ∷ frame "4e00000000010000000000007b000000040003624068"
    ∷ ack ∷ [])
    ∷ breaks (came 2 "44027067") Rule.HiddenLink
    ∷ gives (Event.Dial c_h 9) (Reply.Link 7)
    ∷ done (came 7 "736f6b")
    ∷ done (came 7 "4e000000000100000100000001000000050003634068")
    ∷ gives (came 7 "615d69dd95ac183c9643780ed7027d128a") (Reply.Up c_h 5 false)
    ∷ takes 7 (frame "4e0000000001000000000000040003624068"
    ∷ frame "72000000097c6a180b36896a0a8c02787eeafb0e4c" ∷ [])
    ∷ done (Event.StartScope (codes "q"))
    ∷ done (Event.StopScope (codes "q"))
    ∷ takes 7 []
    ∷ takes 2 [] ∷ []

-- A visible link is replaced by a hidden one: its rows go, and none come.
abbrev pub visible_replaced_by_hidden : List Line
visible_replaced_by_hidden =
    done (Event.StartScope pg)
    ∷ a_named 2
    ++ a_proved 2
    ∷ done (came 2 "530270670000000101670003614068000000050000000000000001")
    ∷ gives (Event.Monitor pg g) (Reply.Ref 6 (a_pid 1 ∷ []))
    ∷ gives (Event.Opened 123) (Reply.Link 7)
    ∷ done (came 7 "4e0000000001000000000000050003614068")
    ∷ done (came 7 "7374727565")
    ∷ gives (came 7 "7200000001482c811da5d5b4bc6d497ffa98491e38")
    (Reply.Up a_h 5 false)
    ∷ members []
    ∷ breaks (came 7 "530270670000000101670003614068000000050000000000000001")
    Rule.HiddenLink
    ∷ gives (Event.Updates 6)
    (Reply.Updates (record {
      group = g;
      leave = true;
      pids = (a_pid 1 ∷ []);
    } ∷ []))
    ∷ takes 7 (frame "73616c697665"
    ∷ challenge
    ∷ ack ∷ []) ∷ []

abbrev pub monitors : List Line
monitors =
    a_up 1
    ++ done (Event.StartScope pg)
    ∷ done (came 1
    "5302706700000003016700036140680000000500000000000000010167000361406800000005000000000000000101670003614068000000050000000000000002")
    ∷ gives (Event.Monitor pg g)
    (Reply.Ref 8 (a_pid 1 ∷ a_pid 1 ∷ a_pid 2 ∷ []))
    ∷ gives (Event.MonitorScope pg)
    (Reply.ScopeRef 9 (record {
      group = g;
      pids = (a_pid 1 ∷ a_pid 1 ∷ a_pid 2 ∷ []);
    } ∷ []))
    ∷ done (came 1
    "53027067000000020167000361406800000005000000000000000101670003614068000000050000000000000003")
    ∷ done (Event.Lost 1)
    ∷ by 1 (Event.Updates 8) (Refused Rule.NoMonitor)
    ∷ gives (Event.Updates 8)
    (Reply.Updates (record {
      group = g;
      leave = true;
      pids = (a_pid 1 ∷ a_pid 2 ∷ []);
    } ∷ record {
      group = g;
      leave = false;
      pids = (a_pid 3 ∷ []);
    } ∷ record {
      group = g;
      leave = true;
      pids = (a_pid 1 ∷ a_pid 3 ∷ []);
    } ∷ []))
    ∷ gives (Event.Updates 8) (Reply.Updates [])
    ∷ done (Event.Demonitor 8)
    ∷ breaks (Event.Demonitor 8) Rule.NoMonitor
    ∷ done (Event.StopScope pg)
    ∷ breaks (Event.Updates 9) Rule.NoMonitor ∷ []

abbrev pub scripts : List (List Line)
scripts = own_rows ∷ exit_over_scopes ∷ discover_and_sync ∷ joins_need_a_sync
    ∷ foreign_and_missing_rows ∷ order_of_message_rules ∷ told_peers ∷ stop_and_start
    ∷ stop_tells_visible_links ∷ hidden_link ∷ visible_replaced_by_hidden ∷ monitors ∷ []
