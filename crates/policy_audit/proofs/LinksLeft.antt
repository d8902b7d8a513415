-- What is said of links after entries that open none, and the numbers of the links that are kept
-- after them.
use Rattle.policy_audit.proofs
use proofs.Words.{arith, AwaitName, awaits, Bool, Entry, eqb-true, Event, false, filter, History}
use proofs.Words.{is_accepted, is_empty, is_kept, is_last, is_open, is_restart, is_some, is_whole}
use proofs.Words.{IsPlayed, IsSameLink, IsStep, just, links, List, Name, name_frame, named_by, None}
use proofs.Words.{not, peer_of, present_link, refl, refusal_owes, Refused, reverse, Rule, same}
use proofs.Words.{Some, start_of, true, waiting, ℕ, ◌&&◌, ◌++◌, ◌==◌, ◌||◌, ◌∷◌, ◌≡◌}
use proofs.KeptNumbers.{kept_after, kept_numbers}
use proofs.LinkFrames.{disconnected_links, given_up_by, handshake_links, lost_links, named_links}
use proofs.LinkFrames.{proved_links, refused_links, replaced_by, taken_links}

-- the event opens a link, or ends all
abbrev pub renews_links : Event → Bool
renews_links ev = is_restart ev || is_some (start_of ev)

-- the event may change more of a link than whether it is open
abbrev pub concerns_links : Event → Bool
concerns_links (Event.Frame l body) = true
concerns_links (Event.StopScope s) = true
concerns_links ev = renews_links ev

-- an entry that opens no link leaves the links, but for a Restart
pub links_left : (es : List Entry) (e : Entry)
    → (is_accepted e.verdict && renews_links e.event) ≡ false → links (e ∷ es) ≡ links es
links_left es e q = grind arith

-- a refused entry, and one of another event, leave what is said of a link
pub facts_left : (es : List Entry) (e : Entry)
    → (is_accepted e.verdict && concerns_links e.event) ≡ false → (l : ℕ) → IsSameLink l es (e ∷ es)
facts_left es e q l = grind arith

-- ---- the kept links

pub numbers_left : (h k : History) → links k.entries ≡ links h.entries
    → ((l : ℕ) → is_kept k l ≡ is_kept h l) → kept_numbers k ≡ kept_numbers h
numbers_left h k same each = λ i. reverse (filter (λ l. each l i) (same i))

module _ (h : History) (e : Entry) where
  abbrev k : History
  k = just h e

  same_links : (ev : Event) → e.event ≡ ev → renews_links ev ≡ false
      → links k.entries ≡ links h.entries
  same_links ev is q = links_left h.entries e (grind arith)

  -- an own frame that is refused takes away a link for which nothing waits
  pub refused_numbers : (j : ℕ) (body : List ℕ) (r : Rule) → e.event ≡ Event.Frame j body
      → e.verdict ≡ Refused r → is_open j h.entries ≡ true → is_whole j h.entries ≡ false
      → kept_numbers k ≡ filter (λ l. not (j == l && is_empty (waiting h l ++ refusal_owes r)))
      (kept_numbers h)
  refused_numbers j body r is refuses opens unwhole =
      kept_after h k (λ l. not (j == l && is_empty (waiting h l ++ refusal_owes r)))
      (same_links (Event.Frame j body) is refl)
      (λ l. grind (arith, (refused_links h e j body r is refuses unwhole l).kept_is, eqb-true j l))

  module _ (yes : is_accepted e.verdict ≡ true) where
    pub lost_numbers : (j : ℕ) → e.event ≡ Event.Lost j
        → kept_numbers k ≡ filter (λ l. not (j == l)) (kept_numbers h)
    lost_numbers j is = grind (arith, kept_after, same_links, lost_links)

    pub taken_numbers : (j : ℕ) → e.event ≡ Event.Take j
        → kept_numbers k ≡ filter (λ l. not (j == l && not (is_open l h.entries))) (kept_numbers h)
    taken_numbers j is = grind (arith, kept_after, same_links, taken_links)

    pub disconnected_numbers : IsPlayed h → (n : List ℕ) (j : ℕ) → present_link n h.entries ≡ Some j
        → e.event ≡ Event.Disconnect n
        → kept_numbers k ≡ filter (λ l. not (j == l)) (kept_numbers h)
    disconnected_numbers legal n j here is =
        kept_after h k (λ l. not (j == l)) (same_links (Event.Disconnect n) is refl)
        (λ l. (disconnected_links h e yes legal n j here is l).kept_is)

    module _ (made : IsStep h e) (j : ℕ) (body : List ℕ) (is : e.event ≡ Event.Frame j body) where
      pub named_numbers : (f : Name) → awaits j h.entries ≡ AwaitName → name_frame body ≡ Some f
          → kept_numbers k ≡ filter (λ l. not (is_open l h.entries && given_up_by j f h.entries l))
          (kept_numbers h)
      named_numbers f a named =
          kept_after h k (λ l. not (is_open l h.entries && given_up_by j f h.entries l))
          (same_links (Event.Frame j body) is refl)
          (λ l. (named_links h e made yes j body is f a named l).kept_is)

      pub proved_numbers : (n : List ℕ) → is_last (awaits j h.entries) ≡ true
          → peer_of j h.entries ≡ Some n
          → kept_numbers k ≡ filter (λ l. not (is_open l h.entries && replaced_by j n h.entries l))
          (kept_numbers h)
      proved_numbers n last of =
          kept_after h k (λ l. not (is_open l h.entries && replaced_by j n h.entries l))
          (same_links (Event.Frame j body) is refl)
          (λ l. (proved_links h e made yes j body is n last of l).kept_is)

      pub framed_numbers : is_last (awaits j h.entries) ≡ false
          → named_by (awaits j h.entries) body ≡ None → kept_numbers k ≡ kept_numbers h
      framed_numbers inner unnamed =
          numbers_left h k (same_links (Event.Frame j body) is refl)
          (λ l. (handshake_links h e made yes j body is inner unnamed l).kept_is)
