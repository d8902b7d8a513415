-- The frames that wait for a link are handed over.
use Rattle.node_core.proofs
use proofs.Words.{Accepted, ap, arith, Bool, Entry, eq-eqb, eqb-true, Event, facts, false, filter}
use proofs.Words.{flip, Follows, get_or, History, is_ended, is_full, is_open, IsAlone, IsLinkOf}
use proofs.Words.{IsState, just, kept_climbs, KeptLink, length, link_place, link_words, LinksFollow}
use proofs.Words.{LinkState, LinkWords, List, nat_eq, not, OutFrame, Parts, refl, Reply, set, Some}
use proofs.Words.{subst, sym, true, waiting, without_ended, without_number, ℕ, [], ◌&&◌, ◌<◌, ◌==◌}
use proofs.Words.{◌∙◌, ◌≡◌}
use Rattle.policy_audit.proofs.LinkFrames.{taken_links}
use Rattle.policy_audit.proofs.LinksLeft.{taken_numbers}
use proofs.Entered.{made, step_follows}
use proofs.Calm.{quiet_next}
use proofs.KeptOn.{filter_all, filter_set, is_kept_at, link_at, one_follows, same_link, stay_follow}

-- a link is open unless its state is the end
pub open_by : (h : History) (l : ℕ) (s : LinkState) → IsState (facts h l) s
    → is_open l h.entries ≡ not (is_ended s)
open_by h l LinkState.Ended t = t
open_by h l s t = t.0.open_now

-- a link for which nothing waits any more
abbrev pub emptied : KeptLink → ℕ → KeptLink
emptied x room = record x { frames = []; prepared = []; room = room }

module _ (h : History) (seat j : ℕ) (frames : List OutFrame) (parts : Parts) (t : Follows h parts)
    (p : ℕ) (d : KeptLink) (found : link_place j parts.links ≡ Some p) where
  abbrev take : Entry
  take = made h seat (Event.Take j) (Accepted (Reply.Out frames)) []

  abbrev link : KeptLink
  link = get_or parts.links p d

  it : IsLinkOf (link_words h) link × (link.number ≡ j) × (p < length parts.links)
  it = link_at h t.sound.played parts.links t.links j p d found

  opens : (ended : Bool) → is_ended link.state ≡ ended → is_open j h.entries ≡ not ended
  opens ended is = grind (arith, it.1, open_by h link.number link.state it.0.state)

  abbrev words : LinkWords
  words = link_words (just h take)

  -- of each other link the same frames wait
  other_link : (x : KeptLink) → (j == x.number) ≡ false → IsLinkOf (link_words h) x
      → IsLinkOf words x
  other_link x other y =
      same_link x refl ((taken_links h take refl j refl x.number).waiting_is ∙ grind (arith, other))
      y

  its_frames : (l : ℕ) → l ≡ j → waiting (just h take) l ≡ []
  its_frames l is = (taken_links h take refl j refl l).waiting_is
      ∙ rw (eq-eqb j l (sym is))

  -- an open link is kept
  open_taken : (room : ℕ) → is_ended link.state ≡ false
      → LinksFollow words (set parts.links p (emptied link room))
  open_taken room opened = one_follows (link_words h) words (emptied link room) (record {
    state = it.0.state;
    begun = it.0.begun;
    frames = sym (its_frames link.number it.1);
    idle = refl;
  })
      (λ x other y. other_link x (flip j x.number ∙ ap (λ l. nat_eq x.number l) (sym it.1) ∙ other)
      y) parts.links p d t.links (kept_climbs h t.sound.played)
      (taken_numbers h take refl j refl
      ∙ filter_all (λ l. not (j == l && not (is_open l h.entries)))
      (λ l. grind (arith, eqb-true j l, opens false opened)) (link_words h).numbers) it.2 refl

  -- an ended one is gone
  ended_taken : (room : ℕ) → is_ended link.state ≡ true
      → LinksFollow words (without_number j (set parts.links p (emptied link room)))
  ended_taken room ended =
      let goes : (l : ℕ) → (j == l && not (is_open l h.entries)) ≡ nat_eq l j =
      λ l. grind (arith, eqb-true j l, flip j l, opens true ended) in
      rw (filter_set (λ x. not (nat_eq x.number j)) parts.links p d (emptied link room) it.2
      (ap not (eq-eqb link.number j it.1)) (ap not (eq-eqb link.number j it.1)))
      (stay_follow (link_words h) words (λ l. not (nat_eq l j)) parts.links t.links
      (taken_numbers h take refl j refl
      ∙ (λ i. filter (λ l. not (goes l i)) (link_words h).numbers))
      (λ x stays y. other_link x (grind (arith, flip j x.number)) y))

  one_taken : (room : ℕ) (b : Bool) → is_ended link.state ≡ b
      → LinksFollow words
      (without_ended (emptied link room) (set parts.links p (emptied link room)))
  one_taken room false e = rw e (open_taken room e)
  one_taken room true e = rw e
      (subst (λ l. LinksFollow words (without_number l (set parts.links p (emptied link room))))
      (sym it.1) (ended_taken room e))

  -- the link is changed, and gone if it has ended
  pub taken_now : is_full h ≡ false → frames ≡ link.frames → (new at : KeptLink) (room : ℕ)
      → new ≡ emptied link room → at ≡ new
      → IsAlone h take
      × Follows (just h take) (record parts { links = without_ended at (set parts.links p new) })
  taken_now space handed new at room is same =
      let next = quiet_next h seat (Reply.Out frames) (Event.Take j) space
      (rw (is_kept_at h t.sound.played parts.links t.links j p found))
      (ap Reply.Out (sym (handed ∙ it.0.frames ∙ ap (waiting h) it.1))) refl in (
        next,
        step_follows t next refl t.admission t.processes t.scopes
            (rw (same, is) (one_taken room (is_ended link.state) refl)),
      )
