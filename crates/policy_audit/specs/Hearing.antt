-- What the peers of links have said about scopes: who is heard, who is told, and which rows are
-- stated.
use Rattle.std.specs.Prelude.{ℕ, ◌+◌, ◌-◌, Bool, true, false, cond, ◌&&◌, ◌==◌, List, [], ◌∷◌, Option, Some, None}
use Rattle.std.specs.List.{flat_map}
use Rattle.std.specs.Option.{unwrap_or, option_map, option_map_or, option_and_then}
use Rattle.dist_types.specs.declared.pid.Pid.{Pid}
use Rattle.dist_types.specs.declared.row.Row.{Row}
use Rattle.dist_types.specs.Listing.{same, same_row, occurrences}
use Rattle.link_frames.specs.declared.message.Message.{Message}
use Rattle.link_frames.specs.declared.message.Message.TheVariants as said
use Rattle.link_frames.specs.Reading.{message}
use Rattle.link_frames.specs.declared.part.Message2.{Message2}
use Rattle.link_frames.specs.Parts.{whole, Begun, completed, begun_after}
use Rattle.link_frames.specs.PartReading.{message2}
use Rattle.policy_audit.specs.declared.opening.Opening.{Opening}
use Rattle.policy_audit.specs.declared.event.Event.{Event}
use Rattle.policy_audit.specs.declared.event.Event.TheVariants as event
use Rattle.policy_audit.specs.declared.entry.Entry.{Entry}
use Rattle.policy_audit.specs.History.{Moment, present, first_of}
use Rattle.policy_audit.specs.Sides.{is_whole, given}
use Rattle.policy_audit.specs.Links.{is_up}

-- ---- the version of a link

-- the version that the peer of link l gave
abbrev pub peer_version : ℕ → List Entry → ℕ
peer_version l es = option_map_or (λ f. f.version) (given l es) 1

-- 2 where the node and its peer have it, else 1
abbrev pub link_version : Opening → ℕ → List Entry → ℕ
link_version o l es = cond (o.links == 2 && peer_version l es == 2) 2 1

-- ---- what is said on it

-- The messages that a link which is up takes: all. (This one word says which frames are taken
-- there.) A message of version 1 is one part.
abbrev pub message_taken : ℕ → List ℕ → Option Message2
message_taken version body = cond (version == 2) (message2 body) (option_map whole (message body))

-- the same of link l
abbrev pub frame_taken : Opening → ℕ → List Entry → List ℕ → Option Message2
frame_taken o l es body = message_taken (link_version o l es) body

-- ---- parts

-- what is kept of link l after a message
abbrev pub kept_after : Option Begun → Option Message2 → Option Begun
kept_after b None = b
kept_after b (Some m) = begun_after b m

-- what an accepted event makes of the message that began on link l: another frame there carries it
-- on or breaks it off, and a stop of its scope here breaks it off
abbrev pub begun_at : Opening → ℕ → List Entry → Event → Option Begun → Option Begun
begun_at o l before (event.Frame k body) b =
    cond (k == l && is_whole l before) (kept_after b (frame_taken o l before body)) b
begun_at o l before (event.StopScope s) b =
    cond (option_map_or (λ x. same x.scope s) b false) None b
begun_at o l before e b = b

-- the same of all these moments
abbrev pub begun_in : Opening → ℕ → List Moment → Option Begun
begun_in o l [] = None
begun_in o l (m ∷ ms) = begun_at o l m.before m.event (begun_in o l ms)

-- the message of which parts were accepted on link l, and neither the last nor anything that broke
-- it off
abbrev pub begun : Opening → ℕ → List Entry → Option Begun
begun o l es = begun_in o l (present es)

-- the rows that are kept
abbrev pub rows_kept : Option Begun → List Row
rows_kept b = option_map_or (λ x. x.rows) b []

-- the message that a frame on link l completes
abbrev pub said_at : Opening → ℕ → List Entry → List ℕ → Option Message
said_at o l es body = option_and_then (completed (begun o l es)) (frame_taken o l es body)

-- ---- messages

-- what bears on a link's scopes: its accepted messages, and the stops of scopes here
pub data Talk : Type 0 where
  Said : Message → Talk
  Stopped : List ℕ → Talk

-- a message, if it is one
abbrev pub talk_of : Option Message → List Talk
talk_of None = []
talk_of (Some m) = Said m ∷ []

-- what an accepted event adds to what bears on link l. A message in parts stands at its last part.
abbrev pub talk_at : Opening → ℕ → List Entry → Event → List Talk
talk_at o l before (event.Frame k body) =
    cond (k == l && is_whole l before) (talk_of (said_at o l before body)) []
talk_at o l before (event.StopScope s) = Stopped s ∷ []
talk_at o l before e = []

-- what these moments add, the newest first
abbrev pub talk_in : Opening → ℕ → List Moment → List Talk
talk_in o l ms = flat_map (λ m. talk_at o l m.before m.event) ms

-- the messages accepted on link l and the stops, the newest first
abbrev pub talk : Opening → ℕ → List Entry → List Talk
talk o l es = talk_in o l (present es)

-- whether this makes the peer heard in s, or not heard
abbrev pub hears : List ℕ → Talk → Option Bool
hears s (Said (said.Sync t rows)) = cond (same t s) (Some true) None
hears s (Said (said.Down t)) = cond (same t s) (Some false) None
hears s (Stopped t) = cond (same t s) (Some false) None
hears s t = None

-- whether this makes the peer told in s, or not told
abbrev pub tells : List ℕ → Talk → Option Bool
tells s (Said (said.Discover t)) = cond (same t s) (Some true) None
tells s (Said (said.Down t)) = cond (same t s) (Some false) None
tells s (Stopped t) = cond (same t s) (Some false) None
tells s t = None

-- the peer is heard in s: link l is up, and a Sync of s came with no later Down and no later stop
-- of s
abbrev pub heard : Opening → ℕ → List ℕ → List Entry → Bool
heard o l s es = is_up l es && unwrap_or (first_of (hears s) (talk o l es)) false

-- the peer is told in s: the same with Discover for Sync
abbrev pub told : Opening → ℕ → List ℕ → List Entry → Bool
told o l s es = is_up l es && unwrap_or (first_of (tells s) (talk o l es)) false

-- how often the row of g and p is one of these
abbrev pub rows_of : List ℕ → Pid → List Row → ℕ
rows_of g p rows = occurrences same_row (record { group = g; pid = p }) rows

-- how often p was stated in g: in the last Sync of s, and by the Joins and Leaves after it
abbrev pub stated_in : List ℕ → List ℕ → Pid → List Talk → ℕ
stated_in s g p [] = 0
stated_in s g p (Said (said.Sync t rows) ∷ ts) =
    cond (same t s) (rows_of g p rows) (stated_in s g p ts)
stated_in s g p (Said (said.Join t rows) ∷ ts) =
    cond (same t s) (stated_in s g p ts + rows_of g p rows) (stated_in s g p ts)
stated_in s g p (Said (said.Leave t rows) ∷ ts) =
    cond (same t s) (stated_in s g p ts - rows_of g p rows) (stated_in s g p ts)
stated_in s g p (Said (said.Down t) ∷ ts) = cond (same t s) 0 (stated_in s g p ts)
stated_in s g p (Stopped t ∷ ts) = cond (same t s) 0 (stated_in s g p ts)
stated_in s g p (t ∷ ts) = stated_in s g p ts

-- how often link l has stated p in g, where its peer is heard in s
abbrev pub stated : Opening → ℕ → List ℕ → List ℕ → Pid → List Entry → ℕ
stated o l s g p es = cond (heard o l s es) (stated_in s g p (talk o l es)) 0
