-- A link with a whole side of accepted frames was admitted, and the other way round.
use Rattle.policy_audit.proofs
use proofs.Words.{and_parts, ap, arith, Bool, ByDial, ByPeer, bytes_eq, bytes_eq-Decides, Challenge}
use proofs.Words.{cookie, digest_of, Entry, false, given, given_in, has_bit, History, is_open}
use proofs.Words.{is_some, is_up, is_visible, IsAdmitted, IsLetIn, IsPlayed, IsPlayedIn, IsReached}
use proofs.Words.{IsTrue, IsTrueStatus, length, LetIn, List, MatchBool, Name, name_frame, name_up}
use proofs.Words.{nat_le, None, not, Opened, opened, Opening, Option, option_and_then}
use proofs.Words.{option_map_or, past, peer_in, peer_of, present_link, Reached, refl, same_decides}
use proofs.Words.{Some, Start, subst, sym, Taken, taken, true, was_up, ℕ, [], ◌&&◌, ◌++◌, ◌↔◌, ◌∙◌}
use proofs.Words.{◌∷◌, ◌≡◌}
use proofs.Accepted.{lie, peer_by}
use proofs.Walked.{Far, far, Follow, hello_of, IsNamed, IsReplied, Walk}
use proofs.Finished.{given_by, three_of, two_of, whole_after, whole_by}
use proofs.UpLinks.{agrees, and_both}
use proofs.Staged.{names_up}

module _ (o : Opening) (l : ℕ) (es : List Entry) where
  -- the digest of the cookie for the peer that the Name gave
  replied_with : (c : ℕ) (a r : Taken) (f : Name) (digest : List ℕ) → name_frame a.body ≡ Some f
      → bytes_eq digest
      (digest_of (option_map_or (cookie (past o r.before))
      (option_and_then (λ g. Some g.name) (name_frame a.body)) []) c) ≡ true
      → digest ≡ digest_of (cookie (past o r.before) f.name) c
  replied_with c a r f digest named q = grind (arith, bytes_eq-Decides)

  -- whether a link of that name was up, in either reading
  agreed : (a : Taken) (up : Bool) (P Q : Type 0) (n : IsNamed o a) → was_up (a ∷ []) ≡ up
      → MatchBool up P Q → MatchBool (name_up n.0.name a.before) P Q
  agreed a up P Q n u m = grind (arith, names_up)

  -- the frames of a link that was let in
  let_in : (c : ℕ) (bo : List Entry) (a r : Taken) (between ts : List Taken) (up : Bool)
      → opened l es ≡ Some (record { start = ByPeer c; before = bo })
      → taken l es ≡ a ∷ (between ++ r ∷ ts) → (n : IsNamed o a)
      → was_up (a ∷ []) ≡ up → MatchBool up (IsTrueStatus between) (between ≡ [])
      → IsReplied o c a r
      → IsLetIn (past o es) l c
  let_in c bo a r between ts up op fr n u says p = record {
    name = a;
    between = between;
    reply = r;
    later = ts;
    peer = n.0;
    replied = p.0;
    before = bo;
    opened = op;
    frames = fr;
    is_name = n.1;
    is_confirmed = agreed a up (IsTrueStatus between) (between ≡ []) n u says;
    is_reply = p.1;
    is_digest = replied_with c a r n.0 p.0.digest n.1 p.2;
    is_allowed = n.2;
  }

  whole_let : (c : ℕ) (bo : List Entry) (a : Taken) (ts : List Taken) (up : Bool)
      → opened l es ≡ Some (record { start = ByPeer c; before = bo }) → taken l es ≡ a ∷ ts
      → (n : IsNamed o a) → was_up (a ∷ []) ≡ up
      → Follow o c a up ts → whole_after c up a ts ≡ true → IsLetIn (past o es) l c
  whole_let c bo a [] false op fr n u p q = lie (sym q)
  whole_let c bo a (r ∷ ts) false op fr n u p q =
      let_in c bo a r [] ts false op fr n u refl p
  whole_let c bo a (b ∷ r ∷ ts) true op fr n u p q =
      let_in c bo a r (b ∷ []) ts true op fr n u (b, refl, p.0) p.1
  whole_let c bo a ts up op fr n u p q = lie (sym q)

  whole_reach : (n : List ℕ) (c : ℕ) (bo : List Entry) (ts : List Taken)
      → opened l es ≡ Some (record { start = ByDial n c; before = bo }) → taken l es ≡ ts
      → Walk o bo (ByDial n c) ts → nat_le 3 (length ts) ≡ true → IsReached (past o es) l n c
  whole_reach n c bo (a ∷ b ∷ r ∷ ts) op fr p q = grind (arith, same_decides, bytes_eq-Decides)
  whole_reach n c bo ts op fr p q = lie (sym q)

  whole_from : (s : Start) (bo : List Entry) (ts : List Taken)
      → opened l es ≡ Some (record { start = s; before = bo }) → taken l es ≡ ts → Walk o bo s ts
      → whole_by (Some (record { start = s; before = bo })) ts ≡ true → IsAdmitted (past o es) l
  whole_from (ByPeer c) bo [] op fr p q = lie (sym q)
  whole_from (ByPeer c) bo (a ∷ ts) op fr p q =
      LetIn c (whole_let c bo a ts (was_up (a ∷ [])) op fr p.0 refl p.1 q)
  whole_from (ByDial n c) bo ts op fr p q = Reached n c (whole_reach n c bo ts op fr p q)

  whole : (oe : Option Opened) → opened l es ≡ oe → Far o oe (taken l es)
      → whole_by oe (taken l es) ≡ true → IsAdmitted (past o es) l
  whole None op p q = lie (sym q)
  whole (Some x) op p q = whole_from x.start x.before (taken l es) op refl p q

-- a link that is up was admitted
pub up-admitted : (h : History) → IsPlayed h → (l : ℕ) → IsTrue (is_up l h.entries) → IsAdmitted h l
up-admitted h legal l up =
    whole h.opening l h.entries (opened l h.entries) refl (far _ _ legal l)
    (and_parts _ _ up).1

-- ---- and back: an open link that was admitted is up

module _ (o : Opening) (l : ℕ) (es : List Entry) (legal : IsPlayedIn o es) where
  let_whole : (c : ℕ) (w : IsLetIn (past o es) l c) → IsPlayedIn o w.name.before
      → whole_by (Some (record { start = ByPeer c; before = w.before }))
      (w.name ∷ (w.between ++ w.reply ∷ w.later)) ≡ true
  let_whole c w past_legal = grind (arith, names_up, three_of, two_of)

  is_whole_link : IsAdmitted (past o es) l → whole_by (opened l es) (taken l es) ≡ true
  is_whole_link (LetIn c w) =
      let here = subst (λ x. Far o x (taken l es)) w.opened (far o es legal l) in
      let seen = subst (λ x. Far o (Some (record { start = ByPeer c; before = w.before })) x)
      w.frames here in
      ap (λ x. whole_by x (taken l es)) w.opened
      ∙ ap (λ x. whole_by (Some (record { start = ByPeer c; before = w.before })) x) w.frames
      ∙ let_whole c w seen.0.3
  is_whole_link (Reached n c w) = grind (arith, three_of)

pub admitted-up : (h : History) → IsPlayed h → (l : ℕ) → IsTrue (is_open l h.entries)
    → IsAdmitted h l → IsTrue (is_up l h.entries)
admitted-up h legal l opens w =
    and_both _ _ opens
    (is_whole_link h.opening l h.entries legal w)

-- a link is up exactly where it is open and was admitted
pub up-is-admitted : (h : History) → IsPlayed h → (l : ℕ)
    → IsTrue (is_up l h.entries) ↔ (IsTrue (is_open l h.entries) × IsAdmitted h l)
up-is-admitted h legal l = (
  λ up. (
    (and_parts _ _ up).0,
    up-admitted h legal l up,
  ),
  λ w. admitted-up h legal l w.0 w.1,
)

-- a link of this name is up exactly where an open link of that peer was admitted
pub name-up-is-admitted : (h : History) → IsPlayed h → (n : List ℕ)
    → IsTrue (name_up n h.entries)
    ↔ ((l : ℕ) × IsTrue (is_open l h.entries) × (peer_of l h.entries ≡ Some n) × IsAdmitted h l)
name-up-is-admitted h legal n = (
  λ up. by (present_link n h.entries) refl (sym (names_up _ _ legal n) ∙ up),
  λ w. back w.0 w.1 w.2 w.3,
)
  where
    by : (x : Option ℕ) → present_link n h.entries ≡ x → is_some x ≡ true
        → (l : ℕ) × IsTrue (is_open l h.entries) × (peer_of l h.entries ≡ Some n) × IsAdmitted h l
    by None q s = lie (sym s)
    by (Some k) q s = (let found = (agrees _ _ legal n k).0 q in (
      k,
      (and_parts _ _ found.0).0,
      found.1,
      up-admitted h legal k found.0,
    ))

    back : (l : ℕ) → IsTrue (is_open l h.entries) → peer_of l h.entries ≡ Some n → IsAdmitted h l
        → IsTrue (name_up n h.entries)
    back l opens of w = names_up _ _ legal n
        ∙ ap is_some ((agrees _ _ legal n l).1 (admitted-up h legal l opens w, of))

-- ---- what the peer of a link that is up gave on it

gave_in : (o : Opening) (bo : List Entry) (s : Start) (ts : List Taken) → Walk o bo s ts
    → whole_by (Some (record { start = s; before = bo })) ts ≡ true
    → (f : Name) × (given_in s ts ≡ Some f) × (peer_in s ts ≡ Some f.name)
gave_in o bo (ByPeer c) (a ∷ ts) p q = grind arith
gave_in o bo (ByDial n c) (a ∷ b ∷ r ∷ ts) p q = (
  hello_of p.1.1.0,
  ap (λ x. option_and_then {T = Challenge} {U = Name} (λ f. Some (hello_of f)) x) p.1.1.1,
  ap Some ((same_decides n p.1.1.0.name).0 p.1.1.2),
)
gave_in o bo s ts p q = lie (sym q)

gave_by : (o : Opening) (oe : Option Opened) (ts : List Taken) → Far o oe ts → whole_by oe ts ≡ true
    → (f : Name) × (given_by oe ts ≡ Some f) × (peer_by oe ts ≡ Some f.name)
gave_by o None ts p q = lie (sym q)
gave_by o (Some x) ts p q = gave_in o x.before x.start ts p q

pub up-gave : (h : History) → IsPlayed h → (l : ℕ) → IsTrue (is_up l h.entries)
    → (f : Name) × (given l h.entries ≡ Some f) × (peer_of l h.entries ≡ Some f.name)
    × (is_visible h l ≡ (not h.opening.hidden && has_bit 0 f.flags))
up-gave h legal l up =
    let gave = gave_by h.opening (opened l h.entries) (taken l h.entries)
    (far _ _ legal l)
    (and_parts _ _ up).1 in (
      gave.0,
      gave.1,
      gave.2,
      ap (λ x. not h.opening.hidden && option_map_or {T = Name} {U =
          Bool} (λ f. has_bit 0 f.flags) x false) gave.1,
    )
