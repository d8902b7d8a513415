-- Who is heard and told over a link, after each message.
use Rattle.policy_audit.proofs
use proofs.Words.{arith, AwaitMessage, awaits, cond, Entry, Event, heard, hears, History}
use proofs.Words.{is_accepted, IsPlayed, IsStep, just, List, Message, not, Row, Said, said_at, same}
use proofs.Words.{Some, tells, told, true, unwrap_or, ℕ, ◌&&◌, ◌==◌, ◌||◌, ◌≡◌}
use proofs.HeardNow.{IsHeardNow, message_heard}

module _ (h : History) (legal : IsPlayed h) (e : Entry) (made : IsStep h e)
    (yes : is_accepted e.verdict ≡ true) (j : ℕ) (body : List ℕ) (is : e.event ≡ Event.Frame j body)
    (up : awaits j h.entries ≡ AwaitMessage)
    (l : ℕ) (s : List ℕ) where
  heard_by : (m : Message) → said_at h.opening j h.entries body ≡ Some m → IsHeardNow (just h e) l s
      (cond (j == l) (unwrap_or (hears s (Said m)) (heard h.opening l s h.entries))
      (heard h.opening l s h.entries))
      (cond (j == l) (unwrap_or (tells s (Said m)) (told h.opening l s h.entries))
      (told h.opening l s h.entries))
  heard_by m says = message_heard h legal e made yes j body is m up says l s

  -- after a Sync the peer is heard
  pub synced_heard : (t : List ℕ) (rows : List Row)
      → said_at h.opening j h.entries body ≡ Some (Message.Sync t rows)
      → IsHeardNow (just h e) l s ((j == l && same t s) || heard h.opening l s h.entries)
      (told h.opening l s h.entries)
  synced_heard t rows says = (let it = heard_by (Message.Sync t rows) says in
      grind (arith, it.heard_is, it.told_is))

  -- after a Discover it is told
  pub discovered_heard : (t : List ℕ)
      → said_at h.opening j h.entries body ≡ Some (Message.Discover t)
      → IsHeardNow (just h e) l s (heard h.opening l s h.entries)
      ((j == l && same t s) || told h.opening l s h.entries)
  discovered_heard t says = (let it = heard_by (Message.Discover t) says in
      grind (arith, it.heard_is, it.told_is))

  -- after a Down neither
  pub downed_heard : (t : List ℕ) → said_at h.opening j h.entries body ≡ Some (Message.Down t)
      → IsHeardNow (just h e) l s (heard h.opening l s h.entries && not (j == l && same t s))
      (told h.opening l s h.entries && not (j == l && same t s))
  downed_heard t says = (let it = heard_by (Message.Down t) says in
      grind (arith, it.heard_is, it.told_is))

  -- a Join and a Leave say nothing of that
  pub joined_heard : (t : List ℕ) (rows : List Row)
      → said_at h.opening j h.entries body ≡ Some (Message.Join t rows)
      → IsHeardNow (just h e) l s (heard h.opening l s h.entries) (told h.opening l s h.entries)
  joined_heard t rows says = (let it = heard_by (Message.Join t rows) says in
      grind (arith, it.heard_is, it.told_is))

  pub left_heard : (t : List ℕ) (rows : List Row)
      → said_at h.opening j h.entries body ≡ Some (Message.Leave t rows)
      → IsHeardNow (just h e) l s (heard h.opening l s h.entries) (told h.opening l s h.entries)
  left_heard t rows says = (let it = heard_by (Message.Leave t rows) says in
      grind (arith, it.heard_is, it.told_is))
