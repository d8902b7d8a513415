-- When a link is open, and when it is up.
use Rattle.std.specs.Prelude.{ℕ, Bool, true, false, cond, ◌&&◌, ◌||◌, not, ◌==◌, List, [], ◌∷◌, Option, None, is_some}
use Rattle.std.specs.List.{flat_map, list_any}
use Rattle.std.specs.Option.{option_map_or}
use Rattle.dist_types.specs.Listing.{same}
use Rattle.handshake_frames.specs.Frame.{Name}
use Rattle.handshake_frames.specs.Reading.{name_frame}
use Rattle.policy_audit.specs.declared.event.Event.{Event}
use Rattle.policy_audit.specs.declared.event.Event.TheVariants as event
use Rattle.policy_audit.specs.declared.entry.Verdict.{Verdict}
use Rattle.policy_audit.specs.declared.entry.Verdict.TheVariants.{Accepted, Refused}
use Rattle.policy_audit.specs.declared.entry.Entry.{Entry}
use Rattle.policy_audit.specs.History.{present, is_accepted}
use Rattle.policy_audit.specs.Sides.{Start, ByPeer, ByDial, start_of, opened, peer_of, is_peer, is_name_up, Awaited, AwaitName, awaits, is_whole, is_last}

-- link l was opened by this entry
abbrev pub is_opened_by : ℕ → Entry → Bool
is_opened_by l e = is_accepted e.verdict && is_some (start_of e.event) && e.number == l

-- a dial to n
abbrev pub is_dial_to : List ℕ → Start → Bool
is_dial_to n (ByPeer c) = false
is_dial_to n (ByDial m c) = same m n

-- link l is an own dial to n that is unfinished, or was so to its end
abbrev pub is_unfinished_dial : List ℕ → ℕ → List Entry → Bool
is_unfinished_dial n l es = option_map_or (λ o. is_dial_to n o.start) (opened l es) false
    && not (is_whole l es)

-- the links k and l have one peer
abbrev pub share_peer : ℕ → ℕ → List Entry → Bool
share_peer k l es = option_map_or (λ n. is_peer n l es) (peer_of k es) false

-- the name in a frame, where a Name is awaited
abbrev pub named_by : Awaited → List ℕ → Option Name
named_by AwaitName body = name_frame body
named_by awaited body = None

-- a frame accepted on link k gives up the own dial l: it names the node dialled, of which no link
-- is up
abbrev pub gives_up : ℕ → List ℕ → ℕ → List Entry → Bool
gives_up k body l es = option_map_or (λ f. not (is_name_up f.name es)
    && is_unfinished_dial f.name l es) (named_by (awaits k es) body) false

-- a frame accepted on another link k ends link l: the last of a side of the same peer, while l is
-- up, or one that gives up l
abbrev pub frame_ends : ℕ → List ℕ → ℕ → List Entry → Bool
frame_ends k body l es = cond (is_last (awaits k es)) (is_whole l es && share_peer k l es)
    (gives_up k body l es)

-- what ends link l, where it is open
abbrev pub ends : ℕ → List Entry → Verdict → Event → Bool
ends l es (Refused rule) (event.Frame k body) = k == l && not (is_whole l es)
ends l es (Refused rule) e = false
ends l es (Accepted r) (event.Frame k body) = not (k == l) && frame_ends k body l es
ends l es (Accepted r) (event.Lost k) = k == l
ends l es (Accepted r) (event.Disconnect n) = is_whole l es && is_peer n l es
ends l es (Accepted r) event.Restart = true
ends l es (Accepted r) e = false

-- open: its opening is present, and nothing after it ended it
abbrev pub is_open : ℕ → List Entry → Bool
is_open l [] = false
is_open l (e ∷ es) = is_opened_by l e || (not (ends l es e.verdict e.event) && is_open l es)

-- up: open, with a whole side
abbrev pub is_up : ℕ → List Entry → Bool
is_up l es = is_open l es && is_whole l es

-- the links that were opened since the last restart, the newest first
abbrev pub links : List Entry → List ℕ
links es = flat_map (λ m. cond (is_some (start_of m.event)) (m.number ∷ []) []) (present es)

-- an own dial to n is unfinished
abbrev pub is_dialling : List ℕ → List Entry → Bool
is_dialling n es = list_any (λ l. is_open l es && is_unfinished_dial n l es) (links es)
