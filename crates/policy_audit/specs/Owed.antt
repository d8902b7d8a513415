-- The frames that a node owes to its links, and those that wait.
use Rattle.std.specs.Prelude.{ℕ, min, Bool, true, false, cond, ◌&&◌, ◌||◌, not, ◌==◌, nat_lt}
use Rattle.std.specs.Prelude.{length, List, [], ◌∷◌, ◌++◌, Option, Some, map}
use Rattle.std.specs.List.{flat_map, filter}
use Rattle.std.specs.Option.{option_map_or}
use Rattle.dist_types.specs.declared.row.Row.{Row}
use Rattle.dist_types.specs.Flags.{own_flags}
use Rattle.dist_types.specs.Order.{pid_cmp}
use Rattle.dist_types.specs.Listing.{same_pid, mentions, listing}
use Rattle.dist_types.specs.Difference.{is_empty}
use Rattle.handshake_frames.specs.declared.frame.StatusWord.{StatusWord}
use Rattle.handshake_frames.specs.declared.frame.StatusWord.TheVariants as word
use Rattle.handshake_frames.specs.Spelling.{name_bytes, status_bytes, challenge_bytes, reply_bytes, ack_bytes}
use Rattle.handshake_frames.specs.Reading.{name_frame, challenge_frame, reply_frame, status_of}
use Rattle.cookie_digest.specs.Digest.{digest_of}
use Rattle.link_frames.specs.declared.message.Message.{Message}
use Rattle.link_frames.specs.declared.message.Message.TheVariants as said
use Rattle.link_frames.specs.Spelling.{message_bytes}
use Rattle.link_frames.specs.declared.part.Message2.{Message2}
use Rattle.link_frames.specs.declared.part.Message2.TheVariants as frames
use Rattle.link_frames.specs.Parts.{message2_bytes, parts}
use Rattle.policy_audit.specs.declared.opening.Opening.{Opening}
use Rattle.policy_audit.specs.declared.event.Event.{Event}
use Rattle.policy_audit.specs.declared.event.Event.TheVariants as event
use Rattle.policy_audit.specs.declared.rule.Rule.{Rule}
use Rattle.policy_audit.specs.declared.rule.Rule.TheVariants as rule
use Rattle.policy_audit.specs.declared.entry.Verdict.{Verdict}
use Rattle.policy_audit.specs.declared.entry.Verdict.TheVariants.{Accepted, Refused}
use Rattle.policy_audit.specs.declared.entry.Entry.{Entry}
use Rattle.policy_audit.specs.OutFrame.{OutFrame}
use Rattle.policy_audit.specs.History.{History, past, is_accepted, creation, just, lose}
use Rattle.policy_audit.specs.Admission.{cookie}
use Rattle.policy_audit.specs.Own.{running_scopes, own}
use Rattle.policy_audit.specs.Sides.{challenge_in, opened, peer_of, is_name_up, is_visible, Awaited}
use Rattle.policy_audit.specs.Sides.{AwaitName, AwaitAnswer, AwaitReply, AwaitStatus}
use Rattle.policy_audit.specs.Sides.{AwaitChallenge, AwaitAck, AwaitMessage, awaits, is_whole}
use Rattle.policy_audit.specs.Links.{ends, is_open, is_up, is_dialling, links}
use Rattle.policy_audit.specs.Hearing.{link_version, frame_taken, heard, told}
use Rattle.policy_audit.specs.Contents.{row, local_rows}

-- a frame of the handshake, with a length of 2 bytes
abbrev pub narrow : List ℕ → OutFrame
narrow body = record { wide = false; body = body }

-- a message, with a length of 4 bytes
abbrev pub wide : Message → OutFrame
wide m = record { wide = true; body = message_bytes m }

-- a message as frames of a link of that version: in parts, where it is 2
abbrev pub said_frames : ℕ → Message → List OutFrame
said_frames version m =
    cond (version == 2) (map (λ part. record { wide = true; body = message2_bytes part }) (parts m))
    (wide m ∷ [])

-- a message as frames of link l
abbrev pub frames_to : History → ℕ → Message → List OutFrame
frames_to h l m = said_frames (link_version h.opening l h.entries) m

-- a status of the handshake
abbrev pub status_frame : StatusWord → OutFrame
status_frame w = narrow (status_bytes w)

-- the challenge in the event that opened link l
abbrev pub own_challenge : ℕ → List Entry → ℕ
own_challenge l es = option_map_or (λ o. challenge_in o.start) (opened l es) 0

-- the digest of the cookie for the peer of link l and this challenge
abbrev pub digest_for : History → ℕ → ℕ → List ℕ
digest_for h l challenge = digest_of (option_map_or (cookie h) (peer_of l h.entries) []) challenge

-- the Name frame of this node
abbrev pub own_name_frame : History → OutFrame
own_name_frame h =
    narrow (name_bytes (record {
      flags = own_flags h.opening.hidden;
      creation = creation h;
      name = h.opening.name;
      version = h.opening.links;
    }))

-- the Challenge frame of this node on link l
abbrev pub own_challenge_frame : History → ℕ → OutFrame
own_challenge_frame h l =
    narrow (challenge_bytes (record {
      flags = own_flags h.opening.hidden;
      challenge = own_challenge l h.entries;
      creation = creation h;
      name = h.opening.name;
      version = h.opening.links;
    }))

-- a Name of this peer is owed `alive` where a link of it is up, `ok_simultaneous` where an own dial
-- to it is unfinished, else `ok`
abbrev pub welcome : History → ℕ → List ℕ → List OutFrame
welcome h l n =
    cond (is_name_up n h.entries) (status_frame word.Alive ∷ [])
    (cond (is_dialling n h.entries) (status_frame word.OkSimultaneous ∷ own_challenge_frame h l
    ∷ []) (status_frame word.Ok ∷ own_challenge_frame h l ∷ []))

-- a visible link that becomes up is owed a Discover for each running scope
abbrev pub discovers : History → ℕ → List OutFrame
discovers h l = cond (is_visible h l) (map (λ s. wide (said.Discover s)) (running_scopes h)) []

-- a status `alive` is owed `true`
abbrev pub true_to : StatusWord → List OutFrame
true_to word.Alive = status_frame word.True ∷ []
true_to w = []

-- a Discover is owed a Sync with all own rows, and then a Discover where the peer isn't heard;
-- other messages are owed nothing
abbrev pub message_owes : History → ℕ → Message2 → List OutFrame
message_owes h l (frames.Discover s) =
    frames_to h l (said.Sync s (local_rows h s))
    ++ cond (heard h.opening l s h.entries) [] (wide (said.Discover s) ∷ [])
message_owes h l m = []

-- what is owed to link l for its accepted frame
abbrev pub frame_owes : History → ℕ → List ℕ → Awaited → List OutFrame
frame_owes h l body AwaitName = option_map_or (λ f. welcome h l f.name) (name_frame body) []
frame_owes h l body AwaitAnswer = own_challenge_frame h l ∷ []
frame_owes h l body AwaitReply =
    option_map_or (λ f. narrow (ack_bytes (record { digest = digest_for h l f.challenge }))
    ∷ discovers h l) (reply_frame body) []
frame_owes h l body AwaitStatus = option_map_or true_to (status_of body) []
frame_owes h l body AwaitChallenge =
    option_map_or (λ f.
    narrow (reply_bytes (record {
      challenge = own_challenge l h.entries;
      digest = digest_for h l f.challenge;
    })) ∷ []) (challenge_frame body) []
frame_owes h l body AwaitAck = discovers h l
frame_owes h l body AwaitMessage =
    option_map_or (message_owes h l) (frame_taken h.opening l h.entries body) []

-- what is owed to a link for its refused frame
abbrev pub refusal_owes : Rule → List OutFrame
refusal_owes rule.NotAllowed = status_frame word.NotAllowed ∷ []
refusal_owes rule.Simultaneous = status_frame word.Nok ∷ []
refusal_owes rule.LinkUp = status_frame word.False ∷ []
refusal_owes r = []

-- these rows, if there are any, to link l, if its peer is told in s
abbrev pub if_told : History → ℕ → List ℕ → (List Row → Message) → List Row → List OutFrame
if_told h l s m rows =
    cond (is_empty rows || not (told h.opening l s h.entries)) [] (frames_to h l (m rows))

-- what is owed to link l, if it is up and visible
abbrev pub if_visible : History → ℕ → Message → List OutFrame
if_visible h l m = cond (is_up l h.entries && is_visible h l) (wide m ∷ []) []

-- the frames that an entry owes to link l
abbrev pub owed : History → ℕ → ℕ → Event → Verdict → List OutFrame
owed h l number (event.StartScope s) (Accepted r) = if_visible h l (said.Discover s)
owed h l number (event.StopScope s) (Accepted r) = if_visible h l (said.Down s)
owed h l number (event.Exit p) (Accepted r) =
    flat_map (λ s. if_told h l s (said.Leave s) (filter (λ w. same_pid w.pid p) (local_rows h s)))
    (running_scopes h)
owed h l number (event.Join s g ps) (Accepted r) =
    if_told h l s (said.Join s) (map (row g) (listing pid_cmp (λ p. mentions p ps) ps))
owed h l number (event.Leave s g ps) (Accepted r) =
    if_told h l s (said.Leave s)
    (map (row g) (listing pid_cmp (λ p. min (mentions p ps) (own h s g p)) ps))
owed h l number (event.Dial n c) (Accepted r) = cond (number == l) (own_name_frame h ∷ []) []
owed h l number (event.Frame k body) (Accepted r) =
    cond (k == l) (frame_owes h l body (awaits l h.entries)) []
owed h l number (event.Frame k body) (Refused r) = cond (k == l) (refusal_owes r) []
owed h l number e v = []

-- a Take hands the frames out, and a Lost or a Restart drops them
abbrev pub clears : ℕ → Event → Bool
clears l (event.Take k) = k == l
clears l (event.Lost k) = k == l
clears l event.Restart = true
clears l e = false

-- an accepted event takes away all frames that wait for link l: it clears them, or ends the link
-- while it is open
abbrev pub drops : ℕ → List Entry → Verdict → Event → Bool
drops l es v e = is_accepted v && (clears l e || (ends l es v e && is_open l es))

-- the same, of an opening and entries
abbrev pub waiting_in : Opening → ℕ → List Entry → List OutFrame
waiting_in o l [] = []
waiting_in o l (e ∷ es) = cond (drops l es e.verdict e.event) [] (waiting_in o l es
    ++ owed (past o es) l e.number e.event e.verdict)

-- the frames that wait for link l: those owed since they were last taken away
abbrev pub waiting : History → ℕ → List OutFrame
waiting h l = waiting_in h.opening l h.entries

-- kept: open, or ended by its own refused frame with frames that still wait
abbrev pub is_kept : History → ℕ → Bool
is_kept h l = is_open l h.entries || not (is_empty (waiting h l))

-- ---- a slow peer's link ends

-- the most frames that wait for a link
abbrev pub max_waiting : ℕ
max_waiting = 1024

-- too many frames wait for link l, which is open
abbrev pub is_slow : Opening → List Entry → ℕ → Bool
is_slow o es l = is_open l es && nat_lt max_waiting (length (waiting_in o l es))

-- the message asks for the rows of a scope
abbrev pub asks : Option Message2 → Bool
asks (Some (frames.Discover s)) = true
asks m = false

-- the events that may owe a message to a link that was up before them: of frames a Discover alone
abbrev pub may_tell : Opening → List Entry → Event → Bool
may_tell o es (event.StartScope s) = true
may_tell o es (event.StopScope s) = true
may_tell o es (event.Exit p) = true
may_tell o es (event.Join s g ps) = true
may_tell o es (event.Leave s g ps) = true
may_tell o es (event.Frame l body) = is_whole l es && asks (frame_taken o l es body)
may_tell o es e = false

-- the links for which too many frames wait
abbrev pub slow_links : History → List ℕ
slow_links h = filter (is_slow h.opening h.entries) (links h.entries)

-- the history after an entry. Where it is accepted,
-- each link for which it leaves too many frames is lost with it.
abbrev pub with_entry : History → Entry → History
with_entry h e =
    cond (is_accepted e.verdict) (past h.opening (lose (slow_links (just h e)) (e ∷ h.entries)))
    (just h e)
