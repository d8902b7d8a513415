-- The kept links after an entry by which one moves on, and perhaps another goes.
use Rattle.node_core.proofs
use proofs.Words.{ap, arith, begun, Bool, cond, Entry, eq-eqb, eqb-true, Event, facts, false}
use proofs.Words.{filter, flip, get_or, HaveEnded, HaveMoved, History, in_state, is_accepted}
use proofs.Words.{is_empty, is_whole, IsLinkOf, IsPlayed, IsState, kept_climbs, kept_numbers}
use proofs.Words.{KeptLink, length, link_words, LinkFacts, LinksFollow, LinkState, LinkWords, List}
use proofs.Words.{moved_on, narrow_frames, nat_eq, None, none_begun, not, Option, OutFrame, refl}
use proofs.Words.{set, Some, StatelessLink, subst, sym, true, unmoved_begun, waiting, with_frames}
use proofs.Words.{with_room, without_link, ℕ, [], ◌&&◌, ◌++◌, ◌<◌, ◌==◌, ◌||◌, ◌∙◌, ◌∷◌, ◌≡◌}
use Rattle.policy_audit.specs.Parted.{moves_parts}
use proofs.KeptOn.{each_at, filter_all, one_follows, same_link, stay_follow}
use Rattle.std.specs.List.{insert}

-- a link stays unless it has this number
abbrev pub stays_but : Option ℕ → ℕ → Bool
stays_but None l = true
stays_but (Some n) l = not (nat_eq l n)

pub without_is : (gone : Option ℕ) (xs : List KeptLink)
    → filter (λ x. stays_but gone x.number) xs ≡ without_link gone xs
without_is None xs = filter_all (λ x. true) (λ x. refl) xs
without_is (Some n) xs = refl

-- between two histories link j moves on to this state with these further frames, and of the others
-- those that stay are as before
pub record AreMoves (h k : History) (j : ℕ) (now : LinkState) (more : List OutFrame) (stays : ℕ
    → Bool) : Type 0 where
  pub state : IsState (facts k j) now
  pub frames : waiting k j ≡ waiting h j ++ more
  pub others : (l : ℕ) → (j == l) ≡ false → stays l ≡ true → facts k l ≡ facts h l
  pub waits : (l : ℕ) → (j == l) ≡ false → stays l ≡ true → waiting k l ≡ waiting h l
  pub numbers : kept_numbers k ≡ filter stays (kept_numbers h)

module _ (h k : History) (legal : IsPlayed h) (j : ℕ) (state : LinkState) (frames : List OutFrame)
    (gone : Option ℕ) (unbegun : begun k.opening j k.entries ≡ None)
    (moves : AreMoves h k j state frames (stays_but gone))
    (kept : List KeptLink) (t : LinksFollow (link_words h) kept) (p : ℕ) (d : KeptLink)
    (less : p < length kept) (is : (get_or kept p d).number ≡ j) (room : ℕ) where
  -- new words for those that stay, and the old ones for the others
  abbrev pick : {A : Type 0} → (ℕ → A) → (ℕ → A) → ℕ → A
  pick new old l = cond (j == l || stays_but gone l) (new l) (old l)

  abbrev between : LinkWords
  between = record {
    numbers = kept_numbers h;
    facts = pick (facts k) (facts h);
    waiting = pick (waiting k) (waiting h);
  }

  abbrev moved : KeptLink
  moved = moved_on state frames room (get_or kept p d)

  picked : {A : Type 0} (new old : ℕ → A) (l : ℕ) → j ≡ l → pick new old l ≡ new l
  picked new old l q = rw (eq-eqb j l q)

  here : IsLinkOf between moved
  here = record {
    begun = sym (ap (λ (f : LinkFacts). f.begun)
        (picked (facts k) (facts h) (get_or kept p d).number (sym is) ∙ ap (facts k) is)
        ∙ unbegun);
    state = subst (λ f. IsState f state)
        (sym (picked (facts k) (facts h) (get_or kept p d).number (sym is) ∙ ap (facts k) is))
        moves.state;
    frames =
        let was = each_at (IsLinkOf (link_words h)) kept p d t.each less in
        ap (λ fs. fs ++ frames) (was.frames ∙ ap (waiting h) is) ∙ sym moves.frames
        ∙ ap (waiting k) (sym is)
        ∙ sym (picked (waiting k) (waiting h) (get_or kept p d).number (sym is));
    idle = refl;
  }

  other : (x : KeptLink) → nat_eq x.number moved.number ≡ false → IsLinkOf (link_words h) x
      → IsLinkOf between x
  other x apart a =
      same_link {w = link_words h} {v = between} x
      (elsewhere (facts k) (facts h) (moves.others x.number))
      (elsewhere (waiting k) (waiting h) (moves.waits x.number)) a
    where
      unlike : (j == x.number) ≡ false
      unlike = flip j x.number ∙ ap (λ (n : ℕ). x.number == n) (sym is) ∙ apart

      elsewhere : {A : Type 0} (new old : ℕ → A)
          → ((j == x.number) ≡ false → stays_but gone x.number ≡ true → new x.number ≡ old x.number)
          → pick new old x.number ≡ old x.number
      elsewhere new old same = grind (arith, same, unlike)

  stayed : (x : KeptLink) → stays_but gone x.number ≡ true → IsLinkOf between x
      → IsLinkOf (link_words k) x
  stayed x q a = same_link {w = between} {v = link_words k} x (sym (new (facts k) (facts h)))
      (sym (new (waiting k) (waiting h))) a
    where
      new : {A : Type 0} (f g : ℕ → A) → pick f g x.number ≡ f x.number
      new f g = grind (arith, q)

  pub moved_follow : LinksFollow (link_words k) (without_link gone (set kept p moved))
  moved_follow = subst (LinksFollow (link_words k)) (without_is gone (set kept p moved))
      (stay_follow between (link_words k) (stays_but gone) (set kept p moved)
      (one_follows (link_words h) between moved here other kept p d t (kept_climbs h legal) refl
      less refl) moves.numbers stayed)

-- before its side is whole a link has begun no message, and so it is behind a frame of it
pub still_unbegun : (h : History) → IsPlayed h → (e : Entry) (j : ℕ) (body : List ℕ)
    → e.event ≡ Event.Frame j body → is_whole j h.entries ≡ false
    → begun h.opening j (e ∷ h.entries) ≡ None
still_unbegun h legal e j body is unwhole =
    unmoved_begun h.opening h.entries e j quiet ∙ none_begun h.opening h.entries legal j unwhole
  where
    quiet : (is_accepted e.verdict && moves_parts j h.entries e.event) ≡ false
    quiet = grind (arith, is, unwhole)

-- ---- a link that moves on, and is put in at its place

-- no element is as many as none
pub none_is_empty : {A : Type 0} (xs : List A) (b : Bool) → b ≡ (length xs == 0) → is_empty xs ≡ b
none_is_empty [] b q = sym q
none_is_empty (x ∷ xs) b q = grind (arith, eqb-true (length (x ∷ xs)) 0)

-- a link in a new state, with further frames
pub stated : {link : StatelessLink} {state : LinkState} {v w : KeptLink} (frames : List OutFrame)
    → v ≡ in_state state link → link.prepared ≡ [] → w ≡ with_room (with_frames v frames) w.room
    → w ≡ moved_on state frames w.room (in_state state link)
stated frames is idle owed = grind arith

module _ (link : StatelessLink) (xs : List KeptLink) (p : ℕ) (w : KeptLink) where
  -- a link is put in, and another goes
  pub put_in : (state : LinkState) (frames : List OutFrame)
      → w ≡ moved_on state frames w.room (in_state state link) → (mid new : List KeptLink)
      → mid ≡ insert xs p w
      → (was lost : Option ℕ) → was ≡ lost → new ≡ without_link was mid
      → HaveMoved p link state frames lost xs new
  put_in state frames owed mid new put was lost is left =
      record {
        room = w.room;
        links = left ∙ λ i. without_link (is i) ((put ∙ ap (insert xs p) owed) i);
      }

  -- a link that ended is put in where frames wait for it
  pub put_where : (bodies : List (List ℕ))
      → w ≡ moved_on LinkState.Ended (narrow_frames bodies) w.room (in_state LinkState.Ended link)
      → (b : Bool) → is_empty w.frames ≡ b → (new : List KeptLink) → new ≡ cond b xs (insert xs p w)
      → HaveEnded p link bodies xs new
  put_where bodies owed b empty new is =
      record {
        room = w.room;
        links = is ∙ λ i. cond ((sym empty ∙ ap (λ (x : KeptLink). is_empty x.frames) owed) i) xs
            (insert xs p (owed i));
      }
