-- What a node says of itself: in its Name on a link that it dialled, and in its Challenge on a link
-- that it accepted.
use Rattle.frame_laws.proofs
use proofs.Numbers.{opens_next, owed_number}
use proofs.Words.{Accepted, AllByRecursion, ap, arith, Bool, but, ByDial, ByPeer, Challenge}
use proofs.Words.{challenge_bytes, challenge_frame, challenge_frame-spelled, cond, creation}
use proofs.Words.{entered, Entry, Event, false, hello_in, History, is_open, is_opened_by, IsNode}
use proofs.Words.{IsPlayedIn, IsVersion, IsWritten, judgement, link_version, List, Message}
use proofs.Words.{Message2, message_taken, moment, name_bytes, name_frame, name_frame-spelled}
use proofs.Words.{narrow, Opening, opening_of, out_in, OutFrame, owed, owes, Owing, owing}
use proofs.Words.{own_challenge, own_flags, own_hello, own_name_frame, past, refl, said_frames}
use proofs.Words.{slice_get, Some, SpellsChallenge-read, start_of, sym, true, unowed, Verdict}
use proofs.Words.{version_bytes, version_read, ℕ, [], ◌+◌, ◌<◌, ◌==◌, ◌^◌, ◌∙◌, ◌∷◌, ◌≡◌, ◌≤◌}
use proofs.Handshakes.{all_closed, begins_it, first_byte, HoldsOfHellos}
use proofs.Pieces.{pieces, value_of}
use proofs.Bodies.{stands_first}
use proofs.Openings.{opening_low, same_creation, unborn_out}
use proofs.OwnLimits.{own_creation_fits}
use proofs.Places.{all_at, InFirst, InSecond, owed_here, part, Parted, this_moment}
use proofs.Spoken.{Holds, node_before, owed_hold}
use proofs.Sayable.{IsSayable, reads, reads_hold}

-- ---- bodies

-- a body that doesn't begin as a Challenge does spells none
not_asked : (body : List ℕ) → (first_byte body == 0x4E) ≡ false → (f : Challenge)
    → challenge_frame body ≡ Some f → ⊥
not_asked body other f q = grind (arith, SpellsChallenge-read body f q)

-- the challenge of a link fits its field
challenge_fits : (es : List Entry) → AllByRecursion (λ e. IsWritten e.event) es → (l : ℕ)
    → own_challenge l es < 2 ^ 32
challenge_fits [] written l = omega arith
challenge_fits (e ∷ es) written l = grind (arith, challenge_fits es written.1 l)

module _ (h : History) (node : IsNode h) where
  version_known : IsVersion h.opening.links
  version_known = node.links

  -- the own Name is read as it was meant
  name_says : name_frame (name_bytes (own_hello h)) ≡ Some (own_hello h)
  name_says = name_frame-spelled (name_bytes (own_hello h)) (own_hello h)
      (record {
        fits = grind (arith, own_creation_fits);
        extra = version_bytes h.opening.links;
        bytes = refl;
        version = version_read h.opening.links version_known;
      })

  module _ (l : ℕ) where
    abbrev own_asked : Challenge
    own_asked = record {
      flags = own_flags h.opening.hidden;
      challenge = own_challenge l h.entries;
      creation = creation h;
      name = h.opening.name;
      version = h.opening.links;
    }

    -- and so is the own Challenge
    asked_says : challenge_frame (challenge_bytes own_asked) ≡ Some own_asked
    asked_says = challenge_frame-spelled (challenge_bytes own_asked) own_asked (record {
      fits = grind (arith, challenge_fits, own_creation_fits);
      extra = version_bytes h.opening.links;
      bytes = refl;
      version = version_read h.opening.links version_known;
    })

    -- a frame in which a Challenge says what this node is
    abbrev IsOwn : OutFrame → Type 0
    IsOwn f = (g : Challenge) → challenge_frame f.body ≡ Some g → hello_in g ≡ own_hello h

    none_asked : (body : List ℕ) → (first_byte body == 0x4E) ≡ false → IsOwn (narrow body)
    none_asked body other g q = absurd (not_asked body other g q)

    hellos : HoldsOfHellos h l (AllByRecursion IsOwn)
    hellos = grind (arith, none_asked, value_of, asked_says)

    abbrev version : ℕ
    version = link_version h.opening l h.entries

    says_own : (f : OutFrame) (p : Message2) → f.wide ≡ true → message_taken version f.body ≡ Some p
        → Unit {0} → IsOwn f
    says_own = grind (arith, not_asked, begins_it)

    all_any : (ps : List Message2) → AllByRecursion (λ p. Unit {0}) ps
    all_any [] = tt
    all_any (p ∷ ps) = (tt, all_any ps)

    said_own : (m : Message) → IsSayable version m → AllByRecursion IsOwn (said_frames version m)
    said_own m can = reads_hold version IsOwn (λ p. Unit {0}) says_own (said_frames version m)
        (pieces version m) (reads version m can) (all_any (pieces version m))

    each_own : Holds h node l version (AllByRecursion IsOwn)
    each_own = record {
      closed = all_closed IsOwn;
      hellos = hellos;
      asks = λ s text. (λ g q. absurd (not_asked _ refl g q), tt);
      downs = λ s text. (λ g q. absurd (not_asked _ refl g q), tt);
      said = λ m can own. said_own m can;
    }

    -- all that is owed to a link that was opened before
    owed_own : (number seat : ℕ) → (number == l) ≡ false → (ev : Event) (v : Verdict)
        → v ≡ judgement h seat ev → IsWritten ev → AllByRecursion IsOwn (owed h l number ev v)
    owed_own number seat later ev v = owed_hold h node l version (λ w. refl)
        (AllByRecursion IsOwn) each_own number seat ev v (λ here. cc)

-- ---- along a history

-- of the moment at which a link was opened, where that is this entry or an earlier one
module _ (o : Opening) (e : Entry) (es : List Entry) (l : ℕ) where
  earlier_hello : l ≤ entered es
      → own_hello (moment l (past o es)) ≡ own_hello (moment l (past o (e ∷ es)))
  earlier_hello = grind arith

  now_hello : IsPlayedIn o es → is_open l es ≡ true
      → own_hello (past o es) ≡ own_hello (moment l (past o es))
  now_hello = grind (arith, same_creation)

  -- a link that was opened before has another number
  apart : e.number ≡ entered es + 1 → l ≤ entered es → (e.number == l) ≡ false
  apart = grind arith

pub asked_own : (o : Opening) (es : List Entry) → IsNode (past o es) → (l c : ℕ)
    → opening_of l es ≡ Some (ByPeer c) → (n : ℕ) (x : Owing) → slice_get (out_in o l es) n ≡ Some x
    → (g : Challenge) → challenge_frame x.frame.body ≡ Some g
    → hello_in g ≡ own_hello (moment l (past o es))
asked_own o [] node l c opens n x q g says = grind arith
asked_own o (e ∷ es) node l c opens n x q g says = by (is_opened_by l e) refl opens
    (λ before r. asked_own o es (node_before o e es node) l c before n x r g says)
    (part (out_in o l es) (owes (past o es) l e) n x q)
  where
    by : (b : Bool) → is_opened_by l e ≡ b
        → cond b (start_of e.event) (opening_of l es) ≡ Some (ByPeer c)
        → (opening_of l es ≡ Some (ByPeer c) → slice_get (out_in o l es) n ≡ Some x
        → hello_in g ≡ own_hello (moment l (past o es)))
        → Parted (out_in o l es) (owes (past o es) l e) n x
        → hello_in g ≡ own_hello (moment l (past o (e ∷ es)))
    by true here q so_far (InFirst r less) = grind (arith, opens_next, unborn_out)
    by true here q so_far (InSecond m at r) =
        grind arith
    by false other q so_far (InFirst r less) = grind (arith, opening_low)
    by false other q so_far (InSecond m at r) =
        grind (
          arith,
          opening_low o es node.legal.1 l (ByPeer c) q,
          owed_here e.number (owed (past o es) l e.number e.event e.verdict) m x r,
          all_at,
          node_before o e es node,
          owed_own (past o es) (node_before o e es node) l e.number e.seat,
          apart o e es l,
          owed_number o es e node.legal.0 l m x.frame,
          now_hello o e es l node.legal.1,
          earlier_hello o e es l,
          unowed o es l,
        )

-- the first frame on a link that was dialled
pub record IsNamed (o : Opening) (es : List Entry) (l : ℕ) : Type 0 where
  pub first : Owing
  pub stands : slice_get (out_in o l es) 0 ≡ Some first
  pub says : name_frame first.frame.body ≡ Some (own_hello (moment l (past o es)))

pub named_own : (o : Opening) (es : List Entry) → IsNode (past o es) → (l : ℕ) (n : List ℕ) (c : ℕ)
    → opening_of l es ≡ Some (ByDial n c) → IsNamed o es l
named_own o [] node l n c opens = cc
named_own o (e ∷ es) node l n c opens = by (is_opened_by l e) refl opens
    (named_own o es (node_before o e es node) l n c)
  where
    -- the Dial itself
    dials : l ≡ entered es + 1 → (ev : Event) (v : Verdict) → is_opened_by l (but e ev v) ≡ true
        → start_of ev ≡ Some (ByDial n c) → out_in o l es ≡ [] → IsNamed o (but e ev v ∷ es) l
    dials next (Event.Dial m d) (Accepted r) here q nothing = record {
      first = owing e.number (own_name_frame (past o es));
      stands = grind arith;
      says = name_says (past o es) (node_before o e es node) ∙ ap (λ h. Some (own_hello h))
          (sym (this_moment o (but e (Event.Dial m d) (Accepted r)) es l next));
    }
    dials next ev v here q nothing = grind arith

    by : (b : Bool) → is_opened_by l e ≡ b
        → cond b (start_of e.event) (opening_of l es) ≡ Some (ByDial n c)
        → (opening_of l es ≡ Some (ByDial n c) → IsNamed o es l) → IsNamed o (e ∷ es) l
    by = grind (arith, opens_next, dials, unborn_out, stands_first, earlier_hello)
