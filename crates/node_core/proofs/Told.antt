-- Links for which further frames wait, or are prepared.
use Rattle.node_core.proofs
use proofs.Words.{Alike, AllByRecursion, and_false, ap, append-nil, append_assoc, AreIdle}
use proofs.Words.{ArePrepared, AreTold, arith, bare, Begun, Bool, broken_off, committed, cond}
use proofs.Words.{eqb-true, facts, false, flip, Follows, has_bit, History, if_among, if_visible}
use proofs.Words.{is_number, is_shown, IsLinkOf, IsPlayed, IsSpelled, IsState, kept_among, KeptLink}
use proofs.Words.{lie, link_words, LinkFacts, LinksFollow, LinkState, LinkWords, List, list_any}
use proofs.Words.{map, Message, nat_eq, None, not, Option, option_map_or, OutFrame, Parts}
use proofs.Words.{prepared_for, refl, rules, said_in, same, shown_numbers, subst, suc, sym}
use proofs.Words.{takes_parts, true, unroomed, wide, with_frames, with_prepared, with_room, zero, ℕ}
use proofs.Words.{[], ◌&&◌, ◌++◌, ◌==◌, ◌∙◌, ◌∷◌, ◌≡◌}
use Rattle.scope_core.proofs.Rising.{all_map, all_mapped, all_unmapped}
use proofs.Zipped.{SoFar}

-- ---- lists of values

pub map_map : {A B C : Type 0} (f : B → C) (g : A → B) (xs : List A)
    → map f (map g xs) ≡ map (λ x. f (g x)) xs
map_map f g [] = refl
map_map f g (x ∷ xs) = ap (λ ys. f (g x) ∷ ys) (map_map f g xs)

pub map_same : {A B : Type 0} (f g : A → B) (xs : List A) → AllByRecursion (λ x. f x ≡ g x) xs
    → map f xs ≡ map g xs
map_same f g [] a = refl
map_same f g (x ∷ xs) a = λ i. a.0 i ∷ map_same f g xs a.1 i

-- what lists give is the same, also by a further step
through : {A B C D : Type 0} (step : C → D) (f : B → C) (g : A → C) (xs : List A) (ys : List B)
    → map f ys ≡ map g xs → map (λ y. step (f y)) ys ≡ map (λ x. step (g x)) xs
through step f g xs ys q = sym (map_map step f ys) ∙ ap (map step) q ∙ map_map step g xs

-- ---- links that follow

module _ (w v : LinkWords) (g : KeptLink → KeptLink)
    (on : (x : KeptLink) → IsLinkOf w x → IsLinkOf v (g x)) where
  -- links that have changed by g, whatever their room
  changed_follow : v.numbers ≡ w.numbers → (old new : List KeptLink)
      → map (λ x. (g x).number) old ≡ map (λ x. x.number) old
      → map unroomed new ≡ map (λ x. unroomed (g x)) old → LinksFollow w old → LinksFollow v new
  changed_follow numbers old new same q t = record {
    numbers = through (λ z. z.number) unroomed (λ x. unroomed (g x)) old new q ∙ same ∙ t.numbers
        ∙ sym numbers;
    each =
        let roomless = all_map (IsLinkOf w) (λ x. IsLinkOf v (unroomed (g x))) (λ x it. let new =
        on x it in search rules) old t.each in
        let moved = subst (AllByRecursion (IsLinkOf v)) (sym q)
        (all_mapped (IsLinkOf v) (λ x. unroomed (g x)) old roomless) in
        all_map (λ x. IsLinkOf v (unroomed x)) (IsLinkOf v) (λ x it. search rules) new
        (all_unmapped (IsLinkOf v) unroomed new moved);
  }

-- a link of which this is said takes messages so, where it is up
abbrev pub IsItsWay : LinkFacts → Bool → Type 0
IsItsWay f parted = f.open_now ≡ true → f.whole ≡ true → parted ≡ (f.version == 2)

pub its_way : (f : LinkFacts) (s : LinkState) → IsState f s → IsItsWay f (takes_parts s)
its_way f (LinkState.Up s) t o w = ap (λ v. v == 2) t.1.said.1.version_is
its_way f LinkState.Ended t o w = lie (sym o ∙ t)
its_way f s t o w = lie (sym w ∙ t.0.whole)

-- links for which further frames wait, as the words say of each of them
pub told_follow : (w v : LinkWords) (more : ℕ → Bool → List OutFrame)
    → ((l : ℕ) → v.facts l ≡ w.facts l) → v.numbers ≡ w.numbers → (old new : List KeptLink)
    → ((l : ℕ) (parted : Bool) → IsItsWay (w.facts l) parted
    → v.waiting l ≡ w.waiting l ++ more l parted)
    → AreTold more old new → LinksFollow w old → LinksFollow v new
told_follow w v more facts numbers old new waits q t =
    changed_follow w v (λ x. with_frames x (more x.number (takes_parts x.state)))
    (λ x it. record {
      state = subst (λ f. IsState f x.state) (sym (facts x.number)) it.state;
      begun = it.begun ∙ sym (ap (λ (f : LinkFacts). f.begun) (facts x.number));
      frames = ap (λ f. f ++ more x.number (takes_parts x.state)) it.frames
          ∙ sym (waits x.number (takes_parts x.state)
          (its_way (w.facts x.number) x.state it.state));
      idle = it.idle;
    })
    numbers old new refl q t

-- what is kept of a message doesn't matter to a state
pub still_state : (f : LinkFacts) (b : Option Begun) (s : LinkState) → IsState f s
    → IsState (record f { begun = b }) s
still_state f b (LinkState.Name c) it = search rules
still_state f b (LinkState.Answer s) it = search rules
still_state f b (LinkState.Reply s) it = search rules
still_state f b (LinkState.Status d) it = search rules
still_state f b (LinkState.Challenge d) it = search rules
still_state f b (LinkState.Ack s) it = search rules
still_state f b (LinkState.Up s) it = search rules
still_state f b LinkState.Ended it = it

-- links for which further frames wait, where nothing is kept of messages of one scope any more
pub stopped_follow : (w v : LinkWords) (more : ℕ → Bool → List OutFrame) (s : List ℕ)
    → ((l : ℕ) → v.facts l ≡ record (w.facts l) {
      begun = cond (option_map_or (λ b. same b.scope s) (w.facts l).begun false) None
          (w.facts l).begun;
    })
    → v.numbers ≡ w.numbers → (old new : List KeptLink)
    → ((l : ℕ) (parted : Bool) → IsItsWay (w.facts l) parted
    → v.waiting l ≡ w.waiting l ++ more l parted)
    → AreTold more old new → LinksFollow w old → LinksFollow v (map (broken_off s) new)
stopped_follow w v more s facts numbers old new waits q t =
    changed_follow w v (λ x. broken_off s (told x))
    (λ x it. record {
      state = subst (λ f. IsState f x.state) (sym (facts x.number))
          (still_state (w.facts x.number) _ x.state it.state);
      begun =
          ap (λ b. cond (option_map_or (λ y. same y.scope s) b false) None b) it.begun
          ∙ sym (ap (λ (f : LinkFacts). f.begun) (facts x.number));
      frames = ap (λ f. f ++ more x.number (takes_parts x.state)) it.frames
          ∙ sym (waits x.number (takes_parts x.state)
          (its_way (w.facts x.number) x.state it.state));
      idle = it.idle;
    })
    numbers old (map (broken_off s) new) refl
    (map_map unroomed (broken_off s) new
    ∙ through (λ z. unroomed (broken_off s z)) unroomed (λ x. unroomed (told x)) old new q)
    t
  where
    told : KeptLink → KeptLink
    told x = with_frames x (more x.number (takes_parts x.state))

-- all that a node keeps is as before where its links are the same but for their room
pub alike_again : {h : History} {parts : Parts} → Follows h parts → (links : List KeptLink)
    → Alike parts.links links → Follows h (record parts { links = links })
alike_again {h} {parts} t links q =
    let kept = changed_follow (link_words h) (link_words h) (λ x. x) (λ x it. it) refl parts.links
    links refl q t.links in
    search rules

-- nothing is prepared for links that follow
pub follow_idle : {h : History} {parts : Parts} → Follows h parts → AreIdle parts.links
follow_idle {h} {parts} t =
    all_map (IsLinkOf (link_words h)) (λ x. x.prepared ≡ []) (λ x it. it.idle) parts.links
    t.links.each

-- ---- the links that are up and visible

-- whether the words say that a link is up and visible
abbrev pub shown_by : LinkFacts → Bool
shown_by f =
    (f.open_now && f.whole) && (not f.hidden && option_map_or (λ n. has_bit 0 n.flags) f.said false)

pub shown_is : (f : LinkFacts) (s : LinkState) → IsState f s → is_shown s ≡ shown_by f
shown_is f (LinkState.Up s) t =
    grind (arith, t.0.open_now, t.0.whole, t.1.said.1.visible_is, t.1.said.1.said)
shown_is f LinkState.Ended t = grind (arith, t)
shown_is f s t = grind (arith, t.0.whole)

shown_among : (w : LinkWords) (xs : List KeptLink) → AllByRecursion (IsLinkOf w) xs → (l : ℕ)
    → is_number l (shown_numbers xs)
    ≡ (is_number l (map (λ x. x.number) xs) && shown_by (w.facts l))
shown_among w [] t l = refl
shown_among w (x ∷ xs) t l =
    grind (
      arith,
      shown_among w xs t.1 l,
      shown_is (w.facts x.number) x.state t.0.state,
      eqb-true l x.number,
      and_false,
    )

-- the number of a kept link is one of those shown where the words say so
pub shown_number : (h : History) (xs : List KeptLink) → IsPlayed h → LinksFollow (link_words h) xs
    → (l : ℕ) → is_number l (shown_numbers xs) ≡ shown_by (facts h l)
shown_number h xs legal t l = shown_among (link_words h) xs t.each l
    ∙ grind (arith, ap (is_number l) t.numbers, kept_among h legal l)

-- a Discover and a Down are spelled alike on all links
pub discover_alike : (s : List ℕ) (parted : Bool)
    → said_in (Message.Discover s) parted ≡ wide (Message.Discover s) ∷ []
discover_alike s true = refl
discover_alike s false = refl

pub down_alike : (s : List ℕ) (parted : Bool)
    → said_in (Message.Down s) parted ≡ wide (Message.Down s) ∷ []
down_alike s true = refl
down_alike s false = refl

-- what the policy owes to links that are up and visible is what those shown are told
pub visible_told : (h : History) (xs : List KeptLink) → IsPlayed h → LinksFollow (link_words h) xs
    → (m : Message) → ((parted : Bool) → said_in m parted ≡ wide m ∷ []) → (l : ℕ)
    (parted : Bool) → if_visible h l m ≡ if_among (shown_numbers xs) (said_in m) l parted
visible_told h xs legal t m alike l parted =
    grind (arith, shown_number h xs legal t l, alike parted)

-- ---- frames that are prepared and wait then

-- what was prepared is dropped
pub forgot_bare : (old new : List KeptLink)
    → map unroomed new ≡ map (λ x. unroomed (with_prepared x [])) old → map bare new ≡ map bare old
forgot_bare old new q = through bare unroomed (λ x. unroomed (with_prepared x [])) old new q

pub forgotten : (xs : List KeptLink) → AreIdle xs
    → map (λ x. unroomed (with_prepared x [])) xs ≡ map unroomed xs
forgotten [] idle = refl
forgotten (x ∷ xs) idle = grind (arith, forgotten xs)

module _ (more : ℕ → Bool → List OutFrame) where
  abbrev pub more_for : KeptLink → List OutFrame
  more_for x = more x.number (takes_parts x.state)

  abbrev pub more_prepared : KeptLink → KeptLink
  more_prepared x = unroomed (with_prepared x (x.prepared ++ more_for x))

  pub prepared_bare : (old new : List KeptLink) → ArePrepared more old new
      → map bare new ≡ map bare old
  prepared_bare old new q = through bare unroomed more_prepared old new q

  pub prepared_none : ((l : ℕ) (parted : Bool) → more l parted ≡ []) → (xs : List KeptLink)
      → ArePrepared more xs xs
  prepared_none none [] = refl
  prepared_none none (x ∷ xs) =
      grind (
        arith,
        prepared_none none xs,
        none x.number (takes_parts x.state),
        append-nil x.prepared,
      )

  -- what is prepared waits
  pub prepared_waits : (old mid : List KeptLink) → AreIdle old → ArePrepared more old mid
      → AreTold more old (map committed mid)
  prepared_waits [] [] idle q = refl
  prepared_waits [] (y ∷ ys) idle q = grind arith
  prepared_waits (x ∷ xs) [] idle q = grind arith
  prepared_waits (x ∷ xs) (y ∷ ys) idle q = grind (arith, prepared_waits xs ys)

  pub prepared_on : (later : ℕ → Bool → List OutFrame) (old mid new : List KeptLink)
      → ArePrepared more old mid → ArePrepared later mid new
      → ArePrepared (λ l parted. more l parted ++ later l parted) old new
  prepared_on later old mid new a b = b
      ∙ through
      (λ z. unroomed (with_prepared z (z.prepared ++ later z.number (takes_parts z.state))))
      unroomed more_prepared old mid a
      ∙ simp append_assoc

module _ (numbers : List ℕ) (frames : Bool → List OutFrame) where
  pub prepared_among : (old new : List KeptLink)
      → map unroomed new ≡ map (λ x. unroomed (prepared_for numbers frames x)) old
      → ArePrepared (if_among numbers frames) old new
  prepared_among old new q = q ∙ all old
    where
      all : (xs : List KeptLink) → map (λ x. unroomed (prepared_for numbers frames x)) xs
          ≡ map (more_prepared (if_among numbers frames)) xs
      all [] = refl
      all (x ∷ xs) = grind (arith, all xs, append-nil x.prepared)

  pub prepared_told : (old mid : List KeptLink) → AreIdle old
      → map unroomed mid ≡ map (λ x. unroomed (prepared_for numbers frames x)) old
      → AreTold (if_among numbers frames) old (map committed mid)
  prepared_told old mid idle q =
      prepared_waits (if_among numbers frames) old mid idle (prepared_among old mid q)

  -- what is prepared and then dropped leaves all as it was
  pub dropped_again : (old mid new : List KeptLink) → AreIdle old
      → map unroomed mid ≡ map (λ x. unroomed (prepared_for numbers frames x)) old
      → map unroomed new ≡ map (λ x. unroomed (with_prepared x [])) mid → Alike old new
  dropped_again old mid new idle q dropped =
      dropped ∙ prepared_bare (if_among numbers frames) old mid (prepared_among old mid q)
      ∙ forgotten old idle

  -- ---- frames that are prepared, one link after the other

  -- what is prepared for a link
  abbrev pub Prepared : KeptLink → KeptLink → Type 0
  Prepared x y = unroomed y ≡ unroomed (prepared_for numbers frames x)

  turned : (x : KeptLink) (n : ℕ) (b : Bool) → n ≡ x.number → b ≡ list_any (λ y. nat_eq y n) numbers
      → list_any (nat_eq x.number) numbers ≡ b
  turned x n b is q = grind (arith, flip x.number)

  -- a link that isn't among these stays
  pub unprepared : (x : KeptLink) (n : ℕ) → n ≡ x.number
      → false ≡ list_any (λ y. nat_eq y n) numbers → Prepared x x
  unprepared x n is q = grind (arith, turned x n false is q)

  pub one_prepared : (x y : KeptLink) (n : ℕ) → n ≡ x.number
      → true ≡ list_any (λ z. nat_eq z n) numbers
      → y ≡ with_room (with_prepared x (x.prepared ++ frames (takes_parts x.state))) y.room
      → Prepared x y
  one_prepared x y n is q made = ap unroomed made ∙ grind (arith, turned x n true is q)

  one_dropped : (x y : KeptLink) → Prepared x y → bare y ≡ bare x
  one_dropped x y q = grind (arith, ap bare q)

  pub all_dropped : (i : ℕ) (xs ys : List KeptLink) → SoFar Prepared i xs ys
      → map bare ys ≡ map bare xs
  all_dropped zero xs ys so_far = ap (map bare) so_far.rest
  all_dropped (suc i) [] [] so_far = refl
  all_dropped (suc i) (x ∷ xs) (y ∷ ys) so_far =
      λ j. one_dropped x y so_far.done.0 j ∷ all_dropped i xs ys
      (record { done = so_far.done.1; rest = so_far.rest }) j
  all_dropped i xs ys so_far = absurd so_far.done

-- a body as a frame with a length of 4 bytes
abbrev pub wide_body : List ℕ → OutFrame
wide_body body = record { wide = true; body = body }

-- ---- what is spelled whole, in parts, or both ways, as the links of these numbers take it

abbrev pub both : List OutFrame → List OutFrame → Bool → List OutFrame
both whole parts parted = cond parted parts whole

module _ (numbers : List ℕ) (m : Message) (whole parts : List OutFrame) where
  -- so each of them gets the message
  one_spelled : (x : KeptLink) → (list_any (nat_eq x.number) numbers ≡ true
      → both whole parts (takes_parts x.state) ≡ said_in m (takes_parts x.state))
      → prepared_for numbers (both whole parts) x ≡ prepared_for numbers (said_in m) x
  one_spelled x spelled = grind (arith, spelled)

  pub all_spelled : (xs : List KeptLink) → IsSpelled false numbers xs m whole
      → IsSpelled true numbers xs m parts
      → map (λ x. unroomed (prepared_for numbers (both whole parts) x)) xs
      ≡ map (λ x. unroomed (prepared_for numbers (said_in m) x)) xs
  all_spelled [] w p = refl
  all_spelled (x ∷ xs) w p = λ i. unroomed (one_spelled x (here (takes_parts x.state) refl) i)
      ∷ all_spelled xs (λ some. w (grind (arith, some))) (λ some. p (grind (arith, some))) i
    where
      here : (b : Bool) → takes_parts x.state ≡ b → list_any (nat_eq x.number) numbers ≡ true
          → both whole parts (takes_parts x.state) ≡ said_in m (takes_parts x.state)
      here true is among =
          ap (both whole parts) is ∙ p (grind (arith, is, among)) ∙ ap (said_in m) (sym is)
      here false is among =
          ap (both whole parts) is ∙ w (grind (arith, is, among)) ∙ ap (said_in m) (sym is)
