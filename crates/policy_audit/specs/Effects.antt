-- What entries leave alone.
use Rattle.std.specs.Prelude.{◌≡◌, ℕ, ◌==◌, Bool, true, false, ◌&&◌, ◌||◌, not, List, ◌∷◌, Option, Some, None, IsTrue}
use Rattle.std.specs.Option.{option_map_or}
use Rattle.dist_types.specs.declared.pid.Pid.{Pid}
use Rattle.dist_types.specs.Listing.{same, same_pid, stands_in}
use Rattle.link_frames.specs.declared.message.Message.{Message}
use Rattle.link_frames.specs.declared.message.Message.TheVariants as said
use Rattle.policy_audit.specs.declared.opening.Opening.{Opening}
use Rattle.policy_audit.specs.declared.event.Event.{Event}
use Rattle.policy_audit.specs.declared.event.Event.TheVariants as event
use Rattle.policy_audit.specs.declared.entry.Entry.{Entry}
use Rattle.policy_audit.specs.History.{audit_of, History, is_accepted, creation}
use Rattle.policy_audit.specs.Admission.{cookie, allow_list}
use Rattle.policy_audit.specs.Own.{running_scopes, spawned, living, lives, own}
use Rattle.policy_audit.specs.Sides.{present_link, opened, taken, given, peer_of, is_peer, AwaitMessage, awaits, is_whole}
use Rattle.policy_audit.specs.Links.{links, is_open, is_up}
use Rattle.policy_audit.specs.Hearing.{said_at, begun, talk, heard, told}
use Rattle.policy_audit.specs.Listed.{listed}
use Rattle.policy_audit.specs.Owed.{waiting, with_entry}
use Rattle.policy_audit.specs.Monitors.{monitor, updates}
use Rattle.policy_audit.specs.Policy.{IsStep, IsPlayed}

-- cookies, the allow list, new processes, queries, monitors and taken frames concern no row
abbrev pub is_quiet : Event → Bool
is_quiet (event.SetCookie c) = true
is_quiet (event.SetCookieFor n c) = true
is_quiet (event.Allow ns) = true
is_quiet event.Spawn = true
is_quiet (event.Members s g) = true
is_quiet (event.LocalMembers s g) = true
is_quiet (event.Groups s) = true
is_quiet (event.LocalGroups s) = true
is_quiet (event.Monitor s g) = true
is_quiet (event.MonitorScope s) = true
is_quiet (event.Demonitor k) = true
is_quiet (event.Updates k) = true
is_quiet (event.Take l) = true
is_quiet e = false

-- the entry is refused, or of such an event: it changes no listing, whatever the history
abbrev pub leaves_rows : Entry → Bool
leaves_rows e = not (is_accepted e.verdict) || is_quiet e.event

-- the present link of n ended, or gave way to another
abbrev pub is_replaced : List ℕ → List Entry → List Entry → Bool
is_replaced n old new = option_map_or (λ l.
    not (option_map_or (λ k. k == l) (present_link n new) false)) (present_link n old) false

-- the message in the body of a frame may change rows of s
abbrev pub is_about_rows : List ℕ → Option Message → Bool
is_about_rows s None = false
is_about_rows s (Some (said.Discover t)) = false
is_about_rows s (Some (said.Sync t rows)) = same t s
is_about_rows s (Some (said.Join t rows)) = same t s
is_about_rows s (Some (said.Leave t rows)) = same t s
is_about_rows s (Some (said.Down t)) = same t s

-- an accepted event may change how often p is listed in g of s: a Join and a Leave for those named,
-- an Exit for that process, a stop for the scope, a restart for all, and a message for the
-- processes of the link's peer, in its scope
abbrev pub concerns : Opening → List Entry → List ℕ → List ℕ → Pid → Event → Bool
concerns o es s g p event.Restart = true
concerns o es s g p (event.StopScope t) = same t s
concerns o es s g p (event.Exit q) = same_pid q p
concerns o es s g p (event.Join t f ps) = same t s && same f g && stands_in same_pid p ps
concerns o es s g p (event.Leave t f ps) = same t s && same f g && stands_in same_pid p ps
concerns o es s g p (event.Frame k body) =
    is_whole k es && is_peer p.node k es && is_about_rows s (said_at o k es body)
concerns o es s g p e = false

-- an entry may change how often p is listed in g of s: its event concerns that, or the present link
-- of p's node is replaced
abbrev pub may_change : Opening → List Entry → Entry → List ℕ → List ℕ → Pid → Bool
may_change o es e s g p =
    (is_accepted e.verdict && concerns o es s g p e.event) || is_replaced p.node es (e ∷ es)

-- the same of an entry with the losses that come with it
abbrev pub may_change_with : History → Entry → List ℕ → List ℕ → Pid → Bool
may_change_with h e s g p =
    (is_accepted e.verdict && concerns h.opening h.entries s g p e.event) || is_replaced p.node
    h.entries
    (with_entry h e).entries

-- what is said of link l is the same after these entries as after those, but for whether it is open
pub record IsSameLink (l : ℕ) (old new : List Entry) : Type 0 where
  pub opened : opened l new ≡ opened l old
  pub taken : taken l new ≡ taken l old
  pub given : given l new ≡ given l old
  pub peer : peer_of l new ≡ peer_of l old
  pub awaits : awaits l new ≡ awaits l old
  pub whole : is_whole l new ≡ is_whole l old
  pub talk : (o : Opening) → talk o l new ≡ talk o l old
  pub begun : (o : Opening) → begun o l new ≡ begun o l old

-- the step accepts this event, as the policy does after this history
pub record IsAccepted (h : History) (e : Entry) (ev : Event) : Type 0 where
  pub legal : IsPlayed h
  pub answered : IsStep h e
  pub accepts : IsTrue (is_accepted e.verdict)
  pub is : e.event ≡ ev

-- the entry accepts this message of the peer n, on link l, which is up
pub record IsMessage (h : History) (e : Entry) (l : ℕ) (n : List ℕ) (m : Message) : Type 0 where
  pub body : List ℕ
  pub accepted : IsAccepted h e (event.Frame l body)
  pub awaited : awaits l h.entries ≡ AwaitMessage
  pub peer : peer_of l h.entries ≡ Some n
  pub says : said_at h.opening l h.entries body ≡ Some m

-- all is in k as in h: creation, cookies, allow list, scopes, processes, rows, monitors with what
-- they have still to tell, also as the policy reads these, off the audit alone, which links are up,
-- and what was said of each
pub record IsUntouched (h k : History) : Type 0 where
  pub opening : k.opening ≡ h.opening
  pub creation : creation k ≡ creation h
  pub cookies : (n : List ℕ) → cookie k n ≡ cookie h n
  pub allow_list : allow_list k ≡ allow_list h
  pub scopes : running_scopes k ≡ running_scopes h
  pub spawned : spawned k ≡ spawned h
  pub living : living k ≡ living h
  pub lives : (p : Pid) → lives k p ≡ lives h p
  pub links : links k.entries ≡ links h.entries
  pub same_link : (l : ℕ) → IsSameLink l h.entries k.entries
  pub up : (l : ℕ) → is_up l k.entries ≡ is_up l h.entries
  pub present : (n : List ℕ) → present_link n k.entries ≡ present_link n h.entries
  pub heard : (l : ℕ) (s : List ℕ) → heard k.opening l s k.entries ≡ heard h.opening l s h.entries
  pub told : (l : ℕ) (s : List ℕ) → told k.opening l s k.entries ≡ told h.opening l s h.entries
  pub own : (s g : List ℕ) (p : Pid) → own k s g p ≡ own h s g p
  pub listed : (s g : List ℕ) (p : Pid) → listed k s g p ≡ listed h s g p
  pub audited_monitors : (seat n : ℕ)
      → monitor (audit_of k) seat n ≡ monitor (audit_of h) seat n
  pub audited_updates : (seat n : ℕ)
      → updates (audit_of k) seat n ≡ updates (audit_of h) seat n
  pub monitors : (seat n : ℕ) → monitor k seat n ≡ monitor h seat n
  pub updates : (seat n : ℕ) → updates k seat n ≡ updates h seat n

-- link l is open in k as in h, and the same frames wait for it
pub record IsAsOpen (l : ℕ) (h k : History) : Type 0 where
  pub is_open : is_open l k.entries ≡ is_open l h.entries
  pub waiting : waiting k l ≡ waiting h l
