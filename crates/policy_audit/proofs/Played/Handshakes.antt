-- Handshakes, computed from the policy.
use Rattle.policy_audit.proofs
use proofs.Words.{codes, Event, List, Reply, Rule, true, ◌++◌, ◌∷◌, []}
use proofs.Lines.{a_h, a_named, a_proved, ack, b_h, breaks, came, challenge, done, frame, gives}
use proofs.Lines.{Line, ok, takes, z_h}

abbrev pub acceptor_handshake : List Line
acceptor_handshake =
    gives (Event.Opened 123) (Reply.Link 1)
    ∷ done (came 1 "4e0000000001000001000000050003614068")
    ∷ takes 1 (ok ∷ challenge
    ∷ [])
    ∷ a_proved 1
    ∷ takes 1 (ack ∷ []) ∷ []

abbrev pub dialler_handshake : List Line
dialler_handshake =
    gives (Event.Dial a_h 123) (Reply.Link 1)
    ∷ takes 1 (frame "4e0000000001000001000000040003624068" ∷ [])
    ∷ done (came 1 "736f6b")
    ∷ done (came 1 "4e000000000100000100000001000000050003614068")
    ∷ takes 1 (frame "720000007b7c6a180b36896a0a8c02787eeafb0e4c" ∷ [])
    ∷ gives (came 1 "61482c811da5d5b4bc6d497ffa98491e38") (Reply.Up a_h 5 true)
    ∷ []

abbrev pub truncated_name : List Line
truncated_name =
    gives (Event.Opened 123) (Reply.Link 1)
    ∷ breaks (came 1 "4e00000000010000010000000500036140") Rule.BadFrame
    ∷ breaks (Event.Take 1) Rule.NoSuchLink ∷ []

abbrev pub bytes_after_the_name : List Line
bytes_after_the_name =
    gives (Event.Opened 123) (Reply.Link 1)
    ∷ done (came 1 "4e0000000001000001000000050003614068aabbcc") ∷ []

abbrev pub no_handshake23 : List Line
no_handshake23 =
    gives (Event.Opened 123) (Reply.Link 1)
    ∷ breaks (came 1 "4e0000000000000001000000050003614068") Rule.NoHandshake23 ∷ []

abbrev pub dynamic_name : List Line
dynamic_name =
    gives (Event.Opened 123) (Reply.Link 1)
    ∷ breaks (came 1 "4e000000020100000100000005000161") Rule.DynamicName ∷ []

abbrev pub bad_name : List Line
bad_name =
    gives (Event.Opened 123) (Reply.Link 1)
    ∷ breaks (came 1 "4e000000000100000100000005000161") Rule.BadName ∷ []

abbrev pub own_name : List Line
own_name =
    gives (Event.Opened 123) (Reply.Link 1)
    ∷ breaks (came 1 "4e0000000001000001000000050003624068") Rule.OwnName ∷ []

abbrev pub wrong_name : List Line
wrong_name =
    gives (Event.Dial a_h 123) (Reply.Link 1)
    ∷ takes 1 (frame "4e0000000001000001000000040003624068" ∷ [])
    ∷ done (came 1 "736f6b")
    ∷ breaks (came 1 "4e000000000100000100000001000000050003634068") Rule.WrongName ∷ []

abbrev pub wrong_digest : List Line
wrong_digest =
    a_named 1
    ++ takes 1 (ok
    ∷ challenge ∷ [])
    ∷ breaks (came 1 "7200000001482c811da5d5b4bc6d497ffa98491e39") Rule.BadDigest
    ∷ breaks (came 1 "7200000001482c811da5d5b4bc6d497ffa98491e38") Rule.NoSuchLink
    ∷ breaks (Event.Take 1) Rule.NoSuchLink ∷ []

abbrev pub peer_says_not_allowed : List Line
peer_says_not_allowed =
    gives (Event.Dial a_h 123) (Reply.Link 1)
    ∷ takes 1 (frame "4e0000000001000001000000040003624068" ∷ [])
    ∷ breaks (came 1 "736e6f745f616c6c6f776564") Rule.PeerSaid
    ∷ gives (Event.Dial a_h 7) (Reply.Link 4) ∷ []

abbrev pub alive_to_a_dial : List Line
alive_to_a_dial =
    gives (Event.Dial a_h 7) (Reply.Link 1)
    ∷ takes 1 (frame "4e0000000001000001000000040003624068" ∷ [])
    ∷ done (came 1 "73616c697665")
    ∷ takes 1 (frame "7374727565" ∷ []) ∷ []

abbrev pub simultaneous_connect : List Line
simultaneous_connect =
    gives (Event.Dial a_h 7) (Reply.Link 1)
    ∷ gives (Event.Opened 123) (Reply.Link 2)
    ∷ breaks (came 2 "4e0000000001000001000000050003614068") Rule.Simultaneous
    ∷ takes 2 (frame "736e6f6b" ∷ [])
    ∷ gives (Event.Dial z_h 8) (Reply.Link 5)
    ∷ gives (Event.Opened 123) (Reply.Link 6)
    ∷ done (came 6 "4e00000000010000010000000100037a4068")
    ∷ takes 6 (frame "736f6b5f73696d756c74616e656f7573"
    ∷ challenge ∷ [])
    ∷ breaks (Event.Take 5) Rule.NoSuchLink ∷ []

abbrev pub stranger_claims_a_dialled_name : List Line
stranger_claims_a_dialled_name =
    gives (Event.Dial z_h 8) (Reply.Link 1)
    ∷ gives (Event.Opened 123) (Reply.Link 2)
    ∷ done (came 2 "4e00000000010000010000000100037a4068")
    ∷ breaks (Event.Take 1) Rule.NoSuchLink
    ∷ breaks (came 2 "7200000001482c811da5d5b4bc6d497ffa98491e39") Rule.BadDigest ∷ []

abbrev pub cookie_for_a_peer : List Line
cookie_for_a_peer =
    done (Event.SetCookieFor a_h (codes "123"))
    ∷ gives (Event.Opened 4) (Reply.Link 2)
    ∷ done (came 2 "4e0000000001000001000000050003614068")
    ∷ gives (came 2 "72000001c881dc9bdb52d04dc20036dbd8313ed055")
    (Reply.Up a_h 5 true)
    ∷ takes 2 (ok ∷ frame "4e000000000100000100000004000000040003624068"
    ∷ frame "61e10adc3949ba59abbe56e057f20f883e" ∷ []) ∷ []

abbrev pub cookie_for_the_own_node : List Line
cookie_for_the_own_node =
    done (Event.SetCookieFor b_h (codes "test"))
    ∷ a_named 2
    ++ gives (came 2 "7200000001cc03e747a6afbbcbf8be7668acfebee5")
    (Reply.Up a_h 5 true) ∷ []

abbrev pub scripts : List (List Line)
scripts = acceptor_handshake ∷ dialler_handshake ∷ truncated_name ∷ bytes_after_the_name
    ∷ no_handshake23 ∷ dynamic_name ∷ bad_name ∷ own_name ∷ wrong_name ∷ wrong_digest
    ∷ peer_says_not_allowed ∷ alive_to_a_dial ∷ simultaneous_connect
    ∷ stranger_claims_a_dialled_name ∷ cookie_for_a_peer ∷ cookie_for_the_own_node ∷ []
