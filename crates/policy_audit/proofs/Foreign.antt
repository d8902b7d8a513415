-- The peer of a link never has the node's own name.
use Rattle.policy_audit.proofs
use proofs.Walked.{but, fresh}
use proofs.Words.{Accepted, arith, checks, Entry, eqb-true, Event, false}
use proofs.Words.{first_broken, frame_checks, History, is_accepted, is_name_up, is_some}
use proofs.Words.{IsPlayed, IsPlayedIn, IsStep, judgement, List, None, Opened}
use proofs.Words.{Opening, Option, past, peer_of, present_link, refl, same, so_far, Some, sym}
use proofs.Words.{Taken, true, Verdict, ℕ, [], ◌++◌, ◌∷◌, ◌≡◌}
use proofs.Accepted.{accepted, all_hold, lie, no_value, open_first, peer_by, unbroken}
use proofs.Finished.{awaited_by}
use proofs.UpLinks.{agrees, none_taken}
use proofs.Effects.{breaks_none}

-- a frame that fits what its link awaits names a peer by another name than the node's own, or
-- leaves the peer
named_now : (h : History) (k : ℕ) (m : Taken) (n : List ℕ) (oe : Option Opened) (ts : List Taken)
    → first_broken (frame_checks h k m.body (awaited_by oe ts)) ≡ None
    → peer_by oe (ts ++ m ∷ []) ≡ Some n → (peer_by oe ts ≡ Some n → same n h.opening.name ≡ false)
    → same n h.opening.name ≡ false
named_now h k m n oe [] fits now so_far = grind arith
named_now h k m n oe (a ∷ ts) fits now so_far = grind arith

foreign_in : (o : Opening) (es : List Entry) → IsPlayedIn o es → (l : ℕ) (n : List ℕ)
    → peer_of l es ≡ Some n → same n o.name ≡ false
foreign_in o [] legal l n q = no_value (sym q)
foreign_in o (e ∷ es) legal l n q =
    by_event e.event e.verdict legal.0.judged (λ j. foreign_in o es legal.1 j n) q
  where
    by_event : (ev : Event) (v : Verdict) → v ≡ judgement (past o es) e.seat ev
        → ((j : ℕ) → peer_of j es ≡ Some n → same n o.name ≡ false)
        → peer_of l (but e ev v ∷ es) ≡ Some n → same n o.name ≡ false
    by_event (Event.Dial m c) (Accepted r) v so_far q = grind (arith, so_far, all_hold, accepted)
    by_event (Event.Frame k body) (Accepted r) v so_far q =
        grind (arith, so_far, open_first, accepted, named_now, eqb-true)
    by_event ev v _ so_far q =
        grind (arith, so_far l, none_taken o es legal.1 n e (fresh o es legal.1 e legal.0) l)

pub peer_foreign : (h : History) → IsPlayed h → (l : ℕ) (n : List ℕ) → peer_of l h.entries ≡ Some n
    → same n h.opening.name ≡ false
peer_foreign h legal l n q = foreign_in h.opening h.entries legal l n q

-- nor has a node that is disconnected
pub left_foreign : (h : History) → IsPlayed h → (e : Entry) → IsStep h e
    → is_accepted e.verdict ≡ true → (n : List ℕ) → e.event ≡ Event.Disconnect n
    → same n h.opening.name ≡ false
left_foreign h legal e made accepts n is =
    by (present_link n h.entries) refl
    (unbroken (is_name_up n h.entries)
    (all_hold (checks h e.seat (Event.Disconnect n))
    (breaks_none h e (Event.Disconnect n) made accepts is)).0)
  where
    by : (x : Option ℕ) → present_link n h.entries ≡ x → is_some x ≡ true
        → same n h.opening.name ≡ false
    by None q s = lie (sym s)
    by (Some l) q s = peer_foreign h legal l n ((agrees _ _ legal n l).0 q).1
