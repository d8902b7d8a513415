-- The rules for each kind of event, in their order.
use Rattle.std.specs.Prelude.{ℕ, ◌+◌, Bool, false, cond, ◌&&◌, ◌||◌, not, nat_le, nat_lt, ◌==◌, List, [], ◌∷◌, ◌++◌, Option, Some, None, is_some, length, bytes_eq}
use Rattle.std.specs.List.{list_all, list_any, flat_map, filter}
use Rattle.std.specs.Option.{option_map_or}
use Rattle.std.specs.Ordering.{is_gt}
use Rattle.dist_types.specs.declared.pid.Pid.{Pid}
use Rattle.dist_types.specs.declared.row.Row.{Row}
use Rattle.dist_types.specs.Text.{is_node_name}
use Rattle.dist_types.specs.Flags.{has_bit}
use Rattle.dist_types.specs.Order.{text_cmp}
use Rattle.dist_types.specs.Listing.{same, how_many, max_rows}
use Rattle.handshake_frames.specs.Frame.{Name, Challenge}
use Rattle.handshake_frames.specs.declared.frame.StatusWord.{StatusWord}
use Rattle.handshake_frames.specs.declared.frame.StatusWord.TheVariants as word
use Rattle.handshake_frames.specs.Reading.{name_frame, challenge_frame, reply_frame, ack_frame, status_of}
use Rattle.link_frames.specs.declared.message.Message.{Message}
use Rattle.link_frames.specs.declared.message.Message.TheVariants as said
use Rattle.link_frames.specs.declared.part.PartKind.{PartKind}
use Rattle.link_frames.specs.declared.part.PartKind.TheVariants as kinds
use Rattle.link_frames.specs.declared.part.Message2.{Message2}
use Rattle.link_frames.specs.declared.part.Message2.TheVariants as frames
use Rattle.link_frames.specs.Parts.{is_next, rows_so_far}
use Rattle.policy_audit.specs.declared.event.Event.{Event}
use Rattle.policy_audit.specs.declared.event.Event.TheVariants as event
use Rattle.policy_audit.specs.declared.rule.Rule.{Rule}
use Rattle.policy_audit.specs.declared.rule.Rule.TheVariants as rule
use Rattle.policy_audit.specs.History.{audit_of, History, creation}
use Rattle.policy_audit.specs.Admission.{allowed, allow_list, cookie_peers, different}
use Rattle.policy_audit.specs.Own.{is_running, running_scopes, living, is_local, lives, own}
use Rattle.policy_audit.specs.Sides.{peer_of, is_peer, is_name_up, is_visible, Awaited, AwaitName, AwaitAnswer, AwaitReply, AwaitStatus, AwaitChallenge, AwaitAck, AwaitMessage, awaits}
use Rattle.policy_audit.specs.Links.{is_open, links, is_dialling}
use Rattle.policy_audit.specs.Hearing.{link_version, frame_taken, begun, heard, told, rows_of}
use Rattle.policy_audit.specs.Listed.{is_from, listed}
use Rattle.policy_audit.specs.Contents.{members, groups, local_rows}
use Rattle.policy_audit.specs.Owed.{own_challenge, digest_for, is_kept}
use Rattle.policy_audit.specs.Monitors.{monitor}

-- a rule, and whether it is broken
pub record Check : Type 0 where
  pub broken : Bool
  pub rule : Rule

-- the rule is broken unless this holds
abbrev pub unless : Bool → Rule → Check
unless holds r = record { broken = not holds; rule = r }

-- the rule of the first check that fails
abbrev pub first_broken : List Check → Option Rule
first_broken [] = None
first_broken (c ∷ cs) = cond c.broken (Some c.rule) (first_broken cs)

-- the event breaks this rule, whatever came before
abbrev pub always : Rule → List Check
always r = unless false r ∷ []

-- the scope runs here
abbrev pub runs : History → List ℕ → Check
runs h s = unless (is_running h s) rule.NoScope

-- ---- limits

-- how many links are kept
abbrev pub kept_links : History → ℕ
kept_links h = how_many (is_kept h) (links h.entries)

-- how many rows of the peer of link l are listed in s
abbrev pub peer_rows : History → ℕ → List ℕ → ℕ
peer_rows h l s = length (filter (λ p. is_peer p.node l h.entries)
    (flat_map (members h s) (groups h s)))

-- fewer than 64 links are kept
abbrev pub has_link_room : History → Check
has_link_room h = unless (nat_lt (kept_links h) 64) rule.LinksFull

-- ---- frames of the handshake

-- no link of n is up, an own dial to it is unfinished, and the own name is the greater: then the
-- own dial goes on
abbrev pub is_simultaneous : History → List ℕ → Bool
is_simultaneous h n = not (is_name_up n h.entries) && is_dialling n h.entries
    && is_gt (text_cmp h.opening.name n)

-- a Name that came on a link
abbrev pub name_checks : History → Name → List Check
name_checks h f =
    unless (has_bit 24 f.flags) rule.NoHandshake23
    ∷ unless (not (has_bit 33 f.flags)) rule.DynamicName
    ∷ unless (is_node_name f.name) rule.BadName
    ∷ unless (not (same f.name h.opening.name)) rule.OwnName
    ∷ unless (allowed h f.name) rule.NotAllowed
    ∷ unless (not (is_simultaneous h f.name)) rule.Simultaneous
    ∷ []

-- the answer to `alive`
abbrev pub answer_checks : StatusWord → List Check
answer_checks word.True = []
answer_checks w = always rule.PeerSaid

-- the status of an acceptor; `up` is whether a link of the peer is up
abbrev pub status_checks : Bool → StatusWord → List Check
status_checks up word.Ok = []
status_checks up word.OkSimultaneous = []
status_checks up word.Alive = unless (not up) rule.LinkUp ∷ []
status_checks up w = always rule.PeerSaid

-- a Challenge that came on the own dial l
abbrev pub challenge_checks : History → ℕ → Challenge → List Check
challenge_checks h l f =
    unless (has_bit 24 f.flags) rule.NoHandshake23
    ∷ unless (is_peer f.name l h.entries) rule.WrongName
    ∷ []

-- the digest is that of the cookie for the peer and the own challenge
abbrev pub digest_checks : History → ℕ → List ℕ → List Check
digest_checks h l digest = unless (bytes_eq digest (digest_for h l (own_challenge l h.entries)))
    rule.BadDigest ∷ []

-- ---- messages

-- how many rows of the peer of link l a scope may list
abbrev pub peer_limit : History → ℕ → ℕ
peer_limit h l = cond (link_version h.opening l h.entries == 2) 65536 max_rows

-- a peer on a link of version 1 is told in s
abbrev pub is_old_told : History → List ℕ → Bool
is_old_told h s =
    list_any (λ l. told h.opening l s h.entries && not (link_version h.opening l h.entries == 2))
    (links h.entries)

-- how many own rows s may have
abbrev pub own_limit : History → List ℕ → ℕ
own_limit h s = cond (h.opening.links == 2 && not (is_old_told h s)) 65536 max_rows

-- every row's process is of the link's peer, with the creation that it gave there
abbrev pub are_from : History → ℕ → List Row → Check
are_from h l rows = unless (list_all (λ r. is_from l h.entries r.pid) rows) rule.ForeignPid

-- the peer of link l is heard in s
abbrev pub hears_in : History → ℕ → List ℕ → Check
hears_in h l s = unless (heard h.opening l s h.entries) rule.NotHeard

-- no row is named more often than it is listed
abbrev pub are_listed : History → List ℕ → List Row → Check
are_listed h s rows =
    unless (list_all (λ r. nat_le (rows_of r.group r.pid rows) (listed h s r.group r.pid)) rows)
    rule.NotListed

-- the link is visible
abbrev pub is_shown : History → ℕ → Check
is_shown h l = unless (is_visible h l) rule.HiddenLink

-- the own rows can be said on link l: in one message of 4,096, or in parts
abbrev pub can_be_told : History → ℕ → List ℕ → Check
can_be_told h l s =
    unless (link_version h.opening l h.entries == 2 || nat_le (length (local_rows h s)) max_rows)
    rule.RowsFull

-- the part is the first of its message, or follows the last accepted message on link l
abbrev pub is_in_order : History → ℕ → PartKind → List ℕ → ℕ → Check
is_in_order h l kind s number =
    unless (is_next (begun h.opening l h.entries) kind s number) rule.PartOrder

-- the rows of the message on link l so far, with those of this part
abbrev pub so_far : History → ℕ → PartKind → List ℕ → ℕ → List Row → List Row
so_far h l kind s number rows =
    rows_so_far (begun h.opening l h.entries) kind s number rows

-- so many rows of the peer of link l may stand in a scope
abbrev pub has_row_room : History → ℕ → ℕ → Check
has_row_room h l rows = unless (nat_le rows (peer_limit h l)) rule.RowsFull

-- what a part of this kind is tested for behind the scope: all rows so far are tested, and the
-- process names of its own
abbrev pub part_checks : History → ℕ → PartKind → List ℕ → ℕ → List Row → List Check
part_checks h l kinds.Sync s number rows =
    is_in_order h l kinds.Sync s number
    ∷ are_from h l rows
    ∷ has_row_room h l (length (so_far h l kinds.Sync s number rows))
    ∷ []
part_checks h l kinds.Join s number rows =
    hears_in h l s
    ∷ is_in_order h l kinds.Join s number
    ∷ are_from h l rows
    ∷ has_row_room h l (peer_rows h l s + length (so_far h l kinds.Join s number rows))
    ∷ []
part_checks h l kinds.Leave s number rows =
    hears_in h l s
    ∷ is_in_order h l kinds.Leave s number
    ∷ are_from h l rows
    ∷ are_listed h s (so_far h l kinds.Leave s number rows)
    ∷ []

-- a message that came on link l, which is up
abbrev pub message_checks : History → ℕ → Message2 → List Check
message_checks h l (frames.Discover s) = is_shown h l ∷ runs h s ∷ can_be_told h l s ∷ []
message_checks h l (frames.Part kind s number last rows) =
    is_shown h l ∷ runs h s ∷ part_checks h l kind s number rows
message_checks h l (frames.Down s) = is_shown h l ∷ runs h s ∷ []

-- the same of a message as a whole
abbrev pub whole_checks : History → ℕ → Message → List Check
whole_checks h l (said.Discover s) = is_shown h l ∷ runs h s ∷ can_be_told h l s ∷ []
whole_checks h l (said.Sync s rows) =
    is_shown h l ∷ runs h s ∷ are_from h l rows ∷ has_row_room h l (length rows) ∷ []
whole_checks h l (said.Join s rows) =
    is_shown h l
    ∷ runs h s
    ∷ hears_in h l s
    ∷ are_from h l rows
    ∷ has_row_room h l (peer_rows h l s + length rows)
    ∷ []
whole_checks h l (said.Leave s rows) =
    is_shown h l ∷ runs h s ∷ hears_in h l s ∷ are_from h l rows ∷ are_listed h s rows ∷ []
whole_checks h l (said.Down s) = is_shown h l ∷ runs h s ∷ []

-- ---- all events

-- the peer of link l has a link that is up
abbrev pub is_peer_up : History → ℕ → Bool
is_peer_up h l = option_map_or (λ n. is_name_up n h.entries) (peer_of l h.entries) false

-- a frame is what its link awaits, and meets these rules
abbrev pub frame_checks : History → ℕ → List ℕ → Awaited → List Check
frame_checks h l body AwaitName = option_map_or (name_checks h) (name_frame body)
    (always rule.BadFrame)
frame_checks h l body AwaitAnswer = option_map_or answer_checks (status_of body)
    (always rule.BadFrame)
frame_checks h l body AwaitReply = option_map_or (λ f. digest_checks h l f.digest)
    (reply_frame body) (always rule.BadFrame)
frame_checks h l body AwaitStatus = option_map_or (status_checks (is_peer_up h l)) (status_of body)
    (always rule.BadFrame)
frame_checks h l body AwaitChallenge = option_map_or (challenge_checks h l) (challenge_frame body)
    (always rule.BadFrame)
frame_checks h l body AwaitAck = option_map_or (λ f. digest_checks h l f.digest) (ack_frame body)
    (always rule.BadFrame)
frame_checks h l body AwaitMessage =
    option_map_or (message_checks h l) (frame_taken h.opening l h.entries body)
    (always rule.BadFrame)

-- a dial to n
abbrev pub dial_checks : History → List ℕ → List Check
dial_checks h n =
    unless (not (same n h.opening.name)) rule.OwnName
    ∷ unless (allowed h n) rule.NotAllowed
    ∷ unless (not (is_name_up n h.entries)) rule.LinkUp
    ∷ unless (not (is_dialling n h.entries)) rule.LinkPending
    ∷ has_link_room h
    ∷ []

-- own processes that join g of s
abbrev pub join_checks : History → List ℕ → List ℕ → List Pid → List Check
join_checks h s g ps =
    runs h s
    ∷ unless (list_all (is_local h) ps) rule.NotLocal
    ∷ unless (list_all (lives h) ps) rule.NoProcess
    ∷ unless (nat_le (length (local_rows h s) + length ps) (own_limit h s)) rule.RowsFull
    ∷ []

-- own processes that leave g of s
abbrev pub leave_checks : History → List ℕ → List ℕ → List Pid → List Check
leave_checks h s g ps =
    runs h s
    ∷ unless (list_all (is_local h) ps) rule.NotLocal
    ∷ unless (list_any (λ p. nat_lt 0 (own h s g p)) ps) rule.NotJoined
    ∷ []

-- the rules for an event, after EntriesFull
abbrev pub checks : History → ℕ → Event → List Check
checks h seat event.Restart = unless (not (creation h == 4294967295)) rule.CreationSpent ∷ []
checks h seat (event.SetCookie c) = []
checks h seat (event.SetCookieFor n c) =
    unless (same n h.opening.name || nat_le (different (n ∷ cookie_peers h)) 1024) rule.CookiesFull
    ∷ []
checks h seat (event.Allow ns) = unless (nat_le (different (ns ++ allow_list h)) 1024)
    rule.AllowFull ∷ []
checks h seat (event.StartScope s) = unless (not (is_running h s)) rule.ScopeRunning
    ∷ unless (nat_lt (length (running_scopes h)) 64) rule.ScopesFull ∷ []
checks h seat (event.StopScope s) = runs h s ∷ []
checks h seat event.Spawn = unless (nat_lt (living h) 65536) rule.PidsFull ∷ []
checks h seat (event.Exit p) = unless (is_local h p) rule.NotLocal
    ∷ unless (lives h p) rule.NoProcess ∷ []
checks h seat (event.Join s g ps) = join_checks h s g ps
checks h seat (event.Leave s g ps) = leave_checks h s g ps
checks h seat (event.Members s g) = runs h s ∷ []
checks h seat (event.LocalMembers s g) = runs h s ∷ []
checks h seat (event.Groups s) = runs h s ∷ []
checks h seat (event.LocalGroups s) = runs h s ∷ []
checks h seat (event.Monitor s g) = runs h s ∷ []
checks h seat (event.MonitorScope s) = runs h s ∷ []
checks h seat (event.Demonitor k) =
    unless (is_some (monitor (audit_of h) seat k)) rule.NoMonitor ∷ []
checks h seat (event.Updates k) = unless (is_some (monitor (audit_of h) seat k)) rule.NoMonitor ∷ []
checks h seat (event.Dial n c) = dial_checks h n
checks h seat (event.Opened c) = has_link_room h ∷ []
checks h seat (event.Lost l) = unless (is_kept h l) rule.NoSuchLink ∷ []
checks h seat (event.Take l) = unless (is_kept h l) rule.NoSuchLink ∷ []
checks h seat (event.Disconnect n) = unless (is_name_up n h.entries) rule.NoLinkTo ∷ []
checks h seat (event.Frame l body) =
    cond (is_open l h.entries) (frame_checks h l body (awaits l h.entries)) (always rule.NoSuchLink)
