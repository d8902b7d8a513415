-- Which links are open and kept, and which frames wait for them, after each event that ends links
-- or owes frames.
use Rattle.policy_audit.proofs
use proofs.Words.{and_parts, ap, append-nil, arith, AwaitMessage, AwaitName, awaits, Bool, cond}
use proofs.Words.{Entry, eq-eqb, eqb-true, Event, false, frame_ends, frame_owes, History}
use proofs.Words.{is_accepted, is_empty, is_kept, is_last, is_name_up, is_open, is_peer}
use proofs.Words.{is_unfinished_dial, is_up, is_whole, IsPlayed, IsStep, just, List, Name}
use proofs.Words.{name_frame, named_by, None, not, OutFrame, peer_of, present_link, refl}
use proofs.Words.{refusal_owes, Refused, Rule, same_decides, Some, subst, true, waiting}
use proofs.Words.{welcome, ℕ, [], ◌&&◌, ◌++◌, ◌==◌, ◌≡◌}
use proofs.UpLinks.{agrees}
use proofs.Onward.{frame_open}

-- after the history k link l is open or not, these frames wait for it, and it is kept or not
pub record IsLinkNow (k : History) (l : ℕ) (open_now : Bool) (frames : List OutFrame)
    (kept_now : Bool) : Type 0 where
  pub open_is : is_open l k.entries ≡ open_now
  pub waiting_is : waiting k l ≡ frames
  pub kept_is : is_kept k l ≡ kept_now

-- ---- the ends of links

module _ (h : History) (e : Entry) (yes : is_accepted e.verdict ≡ true) where
  abbrev es : List Entry
  es = h.entries

  abbrev k : History
  k = just h e

  -- a link that is lost
  pub lost_links : (j : ℕ) → e.event ≡ Event.Lost j → (l : ℕ)
      → IsLinkNow k l (is_open l es && not (j == l)) (cond (j == l) [] (waiting h l))
      (is_kept h l && not (j == l))
  lost_links j is l = grind (arith, append-nil)

  -- a link whose frames are taken
  pub taken_links : (j : ℕ) → e.event ≡ Event.Take j → (l : ℕ)
      → IsLinkNow k l (is_open l es) (cond (j == l) [] (waiting h l))
      (is_kept h l && not (j == l && not (is_open l es)))
  taken_links j is l = grind (arith, append-nil)

  -- the present link of a node that is disconnected
  module _ (legal : IsPlayed h) (n : List ℕ) (j : ℕ) (here : present_link n es ≡ Some j)
      (is : e.event ≡ Event.Disconnect n) where
    its : (is_up j es ≡ true) × (peer_of j es ≡ Some n)
    its = (agrees h.opening es legal n j).0 here

    -- of the open links the present one ends
    ends_present : (l : ℕ) → is_open l es ≡ true → (is_whole l es && is_peer n l es) ≡ (j == l)
    ends_present l opens =
        grind (arith, its, agrees h.opening es legal n l, same_decides, eqb-true j l, eq-eqb j l)

    -- the present link is open
    present_open : (l : ℕ) → (j == l) ≡ true → is_open l es ≡ true
    present_open l q =
        subst (λ x. is_open x es ≡ true) (eqb-true j l q)
        (and_parts _ _ its.0).0

    pub disconnected_links : (l : ℕ)
        → IsLinkNow k l (is_open l es && not (j == l)) (cond (j == l) [] (waiting h l))
        (is_kept h l && not (j == l))
    disconnected_links l = grind (arith, append-nil, ends_present l, present_open l)

-- ---- a refused frame

-- it ends its own link, where that is unfinished
pub refused_links : (h : History) (e : Entry) (j : ℕ) (body : List ℕ) (r : Rule)
    → e.event ≡ Event.Frame j body → e.verdict ≡ Refused r → is_whole j h.entries ≡ false → (l : ℕ)
    → IsLinkNow (just h e) l (is_open l h.entries && not (j == l))
    (cond (j == l) (waiting h l ++ refusal_owes r) (waiting h l))
    (cond (j == l) (not (is_empty (waiting h l ++ refusal_owes r))) (is_kept h l))
refused_links h e j body r is no_more unwhole l = grind (arith, append-nil, eqb-true j l)

-- ---- accepted frames

-- a Name on link j gives up own dials to that peer, where no link of it is up
abbrev pub given_up_by : ℕ → Name → List Entry → ℕ → Bool
given_up_by j f es l = not (j == l) && not (is_name_up f.name es) && is_unfinished_dial f.name l es

-- the last frame of the side of link j ends another link of its peer n that is up
abbrev pub replaced_by : ℕ → List ℕ → List Entry → ℕ → Bool
replaced_by j n es l = not (j == l) && is_whole l es && is_peer n l es

framed_by : (h : History) (e : Entry) → is_accepted e.verdict ≡ true → (j : ℕ) (body : List ℕ)
    → e.event ≡ Event.Frame j body → is_open j h.entries ≡ true
    → (gone : Bool) (more : List OutFrame) (l : ℕ)
    → (not (j == l) && frame_ends j body l h.entries) ≡ gone
    → ((j == l) ≡ true → frame_owes h l body (awaits l h.entries) ≡ more)
    → IsLinkNow (just h e) l (is_open l h.entries && not gone)
    (cond (is_open l h.entries && gone) [] (cond (j == l) (waiting h l ++ more) (waiting h l)))
    (is_kept h l && not (is_open l h.entries && gone))
framed_by h e accepts j body is opens gone more l ending owes =
    grind (arith, append-nil, owes, eqb-true j l)

module _ (h : History) (e : Entry) (made : IsStep h e) (yes : is_accepted e.verdict ≡ true) (j : ℕ)
    (body : List ℕ) (is : e.event ≡ Event.Frame j body) where
  -- the links that it ends lose their frames, and its own is owed more
  framed : (gone : Bool) (more : List OutFrame) (l : ℕ)
      → (not (j == l) && frame_ends j body l h.entries) ≡ gone
      → ((j == l) ≡ true → frame_owes h l body (awaits l h.entries) ≡ more)
      → IsLinkNow (just h e) l (is_open l h.entries && not gone)
      (cond (is_open l h.entries && gone) [] (cond (j == l) (waiting h l ++ more) (waiting h l)))
      (is_kept h l && not (is_open l h.entries && gone))
  framed = framed_by h e yes j body is (frame_open h e made yes j body is)

  -- a Name
  pub named_links : (f : Name) → awaits j h.entries ≡ AwaitName → name_frame body ≡ Some f → (l : ℕ)
      → IsLinkNow (just h e) l (is_open l h.entries && not (given_up_by j f h.entries l))
      (cond (is_open l h.entries && given_up_by j f h.entries l) []
      (cond (j == l) (waiting h l ++ welcome h l f.name) (waiting h l)))
      (is_kept h l && not (is_open l h.entries && given_up_by j f h.entries l))
  named_links f a named l = grind (arith, framed, eqb-true)

  -- the last frame of a side
  pub proved_links : (n : List ℕ) → is_last (awaits j h.entries) ≡ true
      → peer_of j h.entries ≡ Some n → (l : ℕ)
      → IsLinkNow (just h e) l (is_open l h.entries && not (replaced_by j n h.entries l))
      (cond (is_open l h.entries && replaced_by j n h.entries l) []
      (cond (j == l) (waiting h l ++ frame_owes h l body (awaits l h.entries)) (waiting h l)))
      (is_kept h l && not (is_open l h.entries && replaced_by j n h.entries l))
  proved_links n last of l = grind (arith, framed)

  -- any other: it ends none
  pub handshake_links : is_last (awaits j h.entries) ≡ false
      → named_by (awaits j h.entries) body ≡ None → (l : ℕ)
      → IsLinkNow (just h e) l (is_open l h.entries)
      (cond (j == l) (waiting h l ++ frame_owes h l body (awaits l h.entries)) (waiting h l))
      (is_kept h l)
  handshake_links inner unnamed l =
      (let it = framed false (frame_owes h l body (awaits l h.entries)) l (grind arith)
      (λ m. refl) in grind (arith, it.open_is, it.waiting_is, it.kept_is))

  pub message_links : awaits j h.entries ≡ AwaitMessage → (l : ℕ)
      → IsLinkNow (just h e) l (is_open l h.entries)
      (cond (j == l) (waiting h l ++ frame_owes h l body AwaitMessage) (waiting h l)) (is_kept h l)
  message_links a l = (let it = handshake_links (ap is_last a) (ap (λ x. named_by x body) a) l in
      grind (arith, it.open_is, it.waiting_is, it.kept_is, eqb-true j l))
