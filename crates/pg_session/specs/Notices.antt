-- What a connection is told unasked.
use Rattle.std.specs.Prelude.{◌≡◌, ℕ, Bool, true, false, List, [], ◌∷◌, ◌++◌, Option, Some, None, map, not, codes, decimal, if◌then◌else◌, Result, Ok, Err}
use Rattle.std.specs.List.{All, filter, flat_map, list_any}
use Rattle.dist_types.specs.Listing.{same}
use Rattle.policy_audit.specs.declared.event.Event.{Event}
use Rattle.policy_audit.specs.declared.event.Event.TheVariants.{Updates}
use Rattle.policy_audit.specs.declared.reply.Reply.{Reply}
use Rattle.policy_audit.specs.declared.reply.Reply.TheVariants as reply
use Rattle.policy_audit.specs.declared.reply.Update.{Update}
use Rattle.policy_audit.specs.declared.entry.Verdict.{Verdict}
use Rattle.policy_audit.specs.declared.entry.Verdict.TheVariants.{Accepted}
use Rattle.policy_audit.specs.History.{History}
use Rattle.policy_audit.specs.Links.{is_up}
use Rattle.node_threads.specs.declared.fault.CallFault.{CallFault}
use Rattle.node_threads.specs.declared.pass.Call.{Call}
use Rattle.node_threads.specs.Calls.{Record, Gains}
use Rattle.pg_text.specs.Answers.{told_text}
use Rattle.pg_text.specs.declared.down_reason.DownReason.{DownReason}
use Rattle.pg_text.specs.DownReasons.{reason_word}
use Rattle.pg_session.specs.declared.notice.Peer.{Peer}
use Rattle.pg_session.specs.Asked.{is_fetch}

-- a line that comes unasked: an update of a monitor, or its end; a peer that has come or gone; a
-- scope that has stopped; the creation of a new life
pub data Notice : Type 0 where
  change : ℕ → Update → Notice
  ended : ℕ → Notice
  up : List ℕ → ℕ → Bool → Notice
  down : List ℕ → ℕ → DownReason → Notice
  stopped : List ℕ → Notice
  restarted : ℕ → Notice

abbrev pub notice_line : Notice → List ℕ
notice_line (change monitor u) = codes "! " ++ told_text monitor u ++ codes "\n"
notice_line (ended monitor) = codes "! ended " ++ decimal monitor ++ codes "\n"
notice_line (up peer creation visible) = codes "! up " ++ peer ++ codes " " ++ decimal creation
    ++ (if visible then codes " visible\n" else codes " hidden\n")
notice_line (down peer creation reason) = codes "! down " ++ peer ++ codes " " ++ decimal creation
    ++ codes " " ++ reason_word reason ++ codes "\n"
notice_line (stopped scope) = codes "! stopped " ++ scope ++ codes "\n"
notice_line (restarted creation) = codes "! restarted " ++ decimal creation ++ codes "\n"

abbrev pub is_change : Notice → Bool
is_change (change monitor u) = true
is_change notice = false

-- ---- what calls were answered

-- the updates of a monitor in the answer to an Updates
abbrev pub changes_of : ℕ → Reply → List Notice
changes_of monitor (reply.Updates us) = map (change monitor) us
changes_of monitor r = []

abbrev pub changes_in : Event → Verdict → List Notice
changes_in (Updates monitor) (Accepted r) = changes_of monitor r
changes_in e verdict = []

-- the updates that the calls were answered with, in order
abbrev pub changes_by : List Call → List Notice
changes_by calls = flat_map (λ (c : Call). changes_in c.event c.verdict) calls

-- the same, of an answer that isn't kept yet
abbrev pub fetched : ℕ → Result Reply CallFault → List Notice
fetched monitor (Ok r) = changes_of monitor r
fetched monitor (Err fault) = []

-- ---- who is up, as far as a connection knows

-- the peers that it takes for up, and the creation of a new life that it hasn't been told
pub record Known : Type 0 where
  pub peers : List Peer
  pub anew : Option ℕ

abbrev pub is_named : List ℕ → Peer → Bool
is_named n p = same p.name n

-- its link isn't up any more
abbrev pub has_gone : History → Peer → Bool
has_gone h p = not (is_up p.link h.entries)

-- what a notice makes of that: a peer comes up that wasn't, one goes that was, and a new life is
-- told once nobody is up
abbrev pub Becomes : Known → Notice → Known → Type 0
Becomes k (up n creation visible) k' = (p : Peer) × (list_any (is_named n) k.peers ≡ false)
    × (p.name ≡ n) × (p.creation ≡ creation) × (k' ≡ record k { peers = k.peers ++ p ∷ [] })
Becomes k (down n creation reason) k' = (p : Peer) × (before : List Peer) × (after : List Peer)
    × (p.name ≡ n) × (p.creation ≡ creation) × (k.peers ≡ before ++ p ∷ after)
    × (k' ≡ record k { peers = before ++ after })
Becomes k (restarted creation) k' = (k ≡ record { peers = []; anew = Some creation })
    × (k' ≡ record { peers = []; anew = None })
Becomes k notice k' = k' ≡ k

-- what all of these make of it, one after another
abbrev pub BecomesAll : Known → List Notice → Known → Type 0
BecomesAll k [] k' = k' ≡ k
BecomesAll k (n ∷ ns) k' = (mid : Known) × Becomes k n mid × BecomesAll mid ns k'

-- the peer has gone, for this reason
abbrev pub gone : DownReason → Peer → Notice
gone reason p = down p.name p.creation reason

-- ---- what is told

-- the pass has only asked what its monitors have not told yet; of the lines that were added those
-- of updates tell just what it was answered, in order; and they make this of what the connection
-- knows
pub record Tells (pass : Record) (known : Known) (out : List ℕ) (pass' : Record) (known' : Known)
    (out' : List ℕ) : Type 0 where
  pub more : List Call
  pub notices : List Notice
  pub gains : Gains pass more pass'
  pub asks : All (λ (c : Call). is_fetch c.event ≡ true) more
  pub lines : out' ≡ out ++ flat_map notice_line notices
  pub changes : filter is_change notices ≡ changes_by more
  pub becomes : BecomesAll known notices known'

-- the same without a call, and so without an update
abbrev pub TellsNews : Known → List ℕ → Known → List ℕ → Type 0
TellsNews known out known' out' = (pass : Record) → Tells pass known out pass known' out'

-- and without news of peers or of a new life
abbrev pub TellsMore : List ℕ → List ℕ → Type 0
TellsMore out out' = (known : Known) → TellsNews known out known out'
