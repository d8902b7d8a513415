-- A link that is taken out of the kept ones, and apart from its state, while it hears a frame.
use Rattle.node_core.proofs
use proofs.Words.{AdmissionRules, ap, arith, awaits, begun, beside, Bool, checks, Climbs, cond}
use proofs.Words.{dial_beside, dialled_peer, Entry, eq-eqb, eqb-true, Event, facts, false, filter}
use proofs.Words.{find, first_broken, Follows, get_or, get_or-set_same, HaveEnded, HaveMoved, Heard}
use proofs.Words.{Hears, History, in_state, is_dialled, is_dialling, is_empty, is_full, is_last}
use proofs.Words.{is_name_up, is_open, is_some, is_whole, IsAlone, IsReady, IsState, just}
use proofs.Words.{kept_climbs, KeptLink, length, link_place, LinkState, List, list_all, list_any}
use proofs.Words.{ltb-true, map, moved_on, narrow_frames, nat_eq, nat_lt, None, none_begun, not}
use proofs.Words.{older_of, opened, Option, option_map, option_map_or, OutFrame, Parts, Pending}
use proofs.Words.{refl, refusal_owes, Refused, Rule, rule_of, same, set, Some, state_checks}
use proofs.Words.{StatelessLink, subst, suc, sym, taken, true, unroomed, up_peer, waiting}
use proofs.Words.{with_room, without_link, without_number, zero, ℕ, [], ◌++◌, ◌<◌, ◌∙◌, ◌∷◌, ◌≡◌}
use proofs.Words.{◌≤◌}
use Rattle.policy_audit.proofs.Finished.{whole_awaits}
use Rattle.std.specs.List.{insert, remove}
use Rattle.link_states.specs.Pending.{is_up}
use proofs.Found.{any_found}
use proofs.LinkTests.{dials_are, ups_are}
use proofs.HeardFrames.{is_there, link_there, state_there}
use proofs.KeptOn.{below, filter_set}
use proofs.FrameRules.{owes_alike, refused_follows, refused_next}
use proofs.Entered.{made}
use proofs.Told.{alike_again}
use Rattle.link_states.specs.Checks as state

-- ---- an element that is taken out

put_back : {A : Type 0} (xs : List A) (p : ℕ) (y : A) → p < length xs
    → insert (remove xs p) p y ≡ set xs p y
put_back [] p y less = absurd (omega arith)
put_back (x ∷ xs) zero y less = refl
put_back (x ∷ xs) (suc p) y less = grind (arith, put_back xs p y)

changed_before : {A : Type 0} (xs : List A) (p : ℕ) (y : A) → remove (set xs p y) p ≡ remove xs p
changed_before [] p y = refl
changed_before (x ∷ xs) zero y = refl
changed_before (x ∷ xs) (suc p) y = ap (λ ys. x ∷ ys) (changed_before xs p y)

found_beside : {A : Type 0} (test : A → Bool) (xs : List A) (p : ℕ) (d : A) → p < length xs
    → test (get_or xs p d) ≡ false → find test (remove xs p) ≡ find test xs
found_beside test [] p d less q = absurd (omega arith)
found_beside test (x ∷ xs) zero d less q = grind arith
found_beside test (x ∷ xs) (suc p) d less q = grind (arith, found_beside test xs p d)

-- of links whose numbers climb, each but the one at a place has another number
above_stay : (n : ℕ) (xs : List KeptLink) → list_all (λ m. nat_lt n m) (map (λ x. x.number) xs)
    ≡ true → without_number n xs ≡ xs
above_stay n [] l = refl
above_stay n (x ∷ xs) l = grind (arith, ltb-true n x.number, above_stay n xs)

others_stay : (xs : List KeptLink) (p : ℕ) (d : KeptLink) → Climbs (map (λ x. x.number) xs)
    → p < length xs → filter (λ x. not (nat_eq x.number (get_or xs p d).number)) xs ≡ remove xs p
others_stay [] p d c less = absurd (omega arith)
others_stay (x ∷ xs) zero d c less = grind (arith, above_stay x.number xs c.0)
others_stay (x ∷ xs) (suc p) d c less =
    let above_it = below x.number xs p d c.0 (omega arith) in
    let unlike : nat_eq x.number (get_or xs p d).number ≡ false =
    grind (arith, eqb-true x.number (get_or xs p d).number, above_it) in
    grind (arith, unlike, others_stay xs p d c.1)

-- ---- a link that is taken out

-- link j is open and stands at a place as v, w with more room; it is taken out, and apart from its
-- state s; and an entry has room
pub record IsHeld (h : History) (kept : List KeptLink) (j p : ℕ) (v w out : KeptLink)
    (s : LinkState) (link : StatelessLink) (left : List KeptLink) : Type 0 where
  pub space : is_full h ≡ false
  pub opens : is_open j h.entries ≡ true
  pub at : link_place j kept ≡ Some p
  pub first : v ≡ get_or kept p v
  pub roomy : w ≡ with_room v w.room
  pub taken : out ≡ get_or (set kept p w) p out
  pub apart : in_state s link ≡ out
  pub others : left ≡ remove (set kept p w) p

alike_there : (xs : List KeptLink) (p : ℕ) (d w : KeptLink) → unroomed w ≡ unroomed (get_or xs p d)
    → map unroomed (set xs p w) ≡ map unroomed xs
alike_there [] p d w q = refl
alike_there (x ∷ xs) zero d w q = grind arith
alike_there (x ∷ xs) (suc p) d w q = grind (arith, alike_there xs p d w)

-- more room alone changes nothing
pub room_follows : {h : History} {parts : Parts} → Follows h parts
    → (j : ℕ) {p : ℕ} {v w : KeptLink} → link_place j parts.links ≡ Some p → v
    ≡ get_or parts.links p v → w ≡ with_room v w.room
    → Follows h (record parts { links = set parts.links p w })
room_follows {h} {parts} t j {p} {v} {w} at is roomy =
    alike_again t (set parts.links p w)
    (alike_there parts.links p v w
    (ap unroomed (roomy ∙ ap (λ (x : KeptLink). with_room x w.room) is)))

-- a side that awaits its last frame isn't whole
pub last_unwhole : (j : ℕ) (es : List Entry) → is_last (awaits j es) ≡ true → is_whole j es ≡ false
last_unwhole j es last = grind (arith, whole_awaits (opened j es) (taken j es))

-- before its side is whole a link that is taken out has begun no message
pub taken_unbegun : {h : History} {parts : Parts} → Follows h parts → (j : ℕ) {p : ℕ}
    {v w out : KeptLink} → link_place j parts.links ≡ Some p → is_whole j h.entries ≡ false
    → v ≡ get_or parts.links p v → w ≡ with_room v w.room
    → out ≡ get_or (set parts.links p w) p out → out.begun ≡ None
taken_unbegun {h} {parts} t j {p} {v} {w} {out} at unwhole is roomy seen =
    let there = is_there t j at v in
    ap (λ (x : KeptLink). x.begun)
    (seen ∙ get_or-set_same parts.links p w out there.0 ∙ roomy
    ∙ ap (λ (x : KeptLink). with_room x w.room) is)
    ∙ (link_there t j at v).begun
    ∙ ap (λ n. begun h.opening n h.entries) there.1
    ∙ none_begun h.opening h.entries t.sound.played j unwhole

module _ {h : History} {parts : Parts} (t : Follows h parts) {j p : ℕ} {v w out : KeptLink}
    {s : LinkState} {link : StatelessLink} {left : List KeptLink}
    (held : IsHeld h parts.links j p v w out s link left) where
  here : p < length parts.links
  here = (is_there t j held.at v).0

  with_state : in_state s link ≡ w
  with_state = held.apart ∙ held.taken ∙ get_or-set_same parts.links p w out here

  -- what it was at its place, but for its room
  as_kept : in_state s link ≡ with_room (get_or parts.links p v) w.room
  as_kept = with_state ∙ held.roomy ∙ ap (λ (x : KeptLink). with_room x w.room) held.first

  pub held_is : s ≡ (get_or parts.links p v).state
  held_is = ap (λ (x : KeptLink). x.state) as_kept

  pub held_number : link.number ≡ j
  held_number = ap (λ (x : KeptLink). x.number) as_kept ∙ (is_there t j held.at v).1

  -- the link at the place, seen again before it was taken out
  pub held_seen : {u : KeptLink} → u ≡ get_or (set parts.links p w) p u → u.state ≡ s
  held_seen {u} is =
      ap (λ (x : KeptLink). x.state) (is ∙ get_or-set_same parts.links p w u here ∙ sym with_state)

  pub held_state : IsState (facts h j) s
  held_state = subst (IsState (facts h j)) (sym held_is) (state_there t j held.at v)

  pub held_ready : (n : ℕ) → n ≤ w.room → IsReady link n
  held_ready n fits = record {
    idle = ap (λ (x : KeptLink). x.prepared) as_kept ∙ (link_there t j held.at v).idle;
    room = subst (λ (m : ℕ). n ≤ m) (sym (ap (λ (x : KeptLink). x.room) with_state)) fits;
  }

  back : (y : KeptLink) → insert left p y ≡ set parts.links p y
  back y = ap (λ xs. insert xs p y) (held.others ∙ changed_before parts.links p w)
      ∙ put_back parts.links p y here

  -- it moves on from where it was
  pub held_moved : (state : LinkState) (frames : List OutFrame) (gone : Option ℕ)
      (new : List KeptLink) (m : HaveMoved p link state frames gone left new)
      → new ≡ without_link gone
      (set parts.links p (moved_on state frames m.room (get_or parts.links p v)))
  held_moved state frames gone new m =
      m.links ∙ ap (without_link gone)
      (back _ ∙ ap (λ x. set parts.links p (moved_on state frames m.room x)) as_kept)

  -- it ends, and stays where frames wait for it
  pub held_ended : (frames : List (List ℕ)) {more : List OutFrame} → narrow_frames frames ≡ more
      → (new : List KeptLink) (m : HaveEnded p link frames left new)
      → new ≡ without_link (cond (is_empty (waiting h j ++ more)) (Some j) None)
      (set parts.links p (moved_on LinkState.Ended more m.room (get_or parts.links p v)))
  held_ended frames {more} these new m = m.links
      ∙ (λ i. cond (is_empty (waits i ++ these i)) (held.others i)
      ((back _ ∙ ap
      (λ x. set parts.links p (moved_on LinkState.Ended (narrow_frames frames) m.room x))
      as_kept) i))
      ∙ by (is_empty (waiting h j ++ more)) these
    where
      there : (get_or parts.links p v).number ≡ j
      there = (is_there t j held.at v).1

      waits : link.frames ≡ waiting h j
      waits = ap (λ (x : KeptLink). x.frames) as_kept ∙ (link_there t j held.at v).frames
          ∙ ap (waiting h) there

      by : (b : Bool) {fs gs : List OutFrame} → fs ≡ gs
          → cond b (remove (set parts.links p w) p)
          (set parts.links p (moved_on LinkState.Ended fs m.room (get_or parts.links p v)))
          ≡ without_link (cond b (Some j) None)
          (set parts.links p (moved_on LinkState.Ended gs m.room (get_or parts.links p v)))
      by false q =
          ap (λ fs. set parts.links p (moved_on LinkState.Ended fs m.room (get_or parts.links p v)))
          q
      by true {gs = gs} q = changed_before parts.links p w
          ∙ sym (others_stay parts.links p v
          (subst Climbs (sym t.links.numbers) (kept_climbs h t.sound.played)) here)
          ∙ ap (λ (n : ℕ). filter (λ (x : KeptLink). not (nat_eq x.number n)) parts.links) there
          ∙ sym (filter_set (λ x. not (nat_eq x.number j)) parts.links p v
          (moved_on LinkState.Ended gs m.room (get_or parts.links p v)) here
          (grind (arith, eq-eqb, there)) (grind (arith, eq-eqb, there)))

  -- where the frame breaks a rule, it ends
  pub held_broke : (seat : ℕ) (body : List ℕ) → is_whole j h.entries ≡ false
      → (rules : AdmissionRules) (pending : Pending)
      → first_broken (checks h seat (Event.Frame j body))
      ≡ option_map rule_of (state.first_broken (state_checks rules pending s body))
      → (r : Rule) (frames : List (List ℕ)) → Hears rules pending s body (Heard.Ended r frames)
      → (new : List KeptLink) → HaveEnded p link frames left new
      → IsAlone h (made h seat (Event.Frame j body) (Refused r) [])
      × Follows (just h (made h seat (Event.Frame j body) (Refused r) []))
      (record parts { links = new })
  held_broke seat body unwhole rules pending same_rules r frames hears new ends =
      let there = is_there t j held.at v in
      let entered =
      refused_next h seat j body r held.space (same_rules ∙ ap (option_map rule_of) hears.2
      ∙ ap Some (sym hears.1)) in
      let owed = ap refusal_owes hears.1 ∙ owes_alike hears.0 ∙ ap narrow_frames (sym hears.3) in (
        entered,
        refused_follows h seat j body r held.opens unwhole (narrow_frames frames) owed parts
            t p v there.0 there.1 entered ends.room new (held_ended frames refl new ends),
      )

  -- it goes back as it was
  pub held_restored : {back_state : LinkState} → back_state ≡ s → {new : List KeptLink}
      → new ≡ insert left p (in_state back_state link) → Follows h (record parts { links = new })
  held_restored {back_state} same_state {new} is =
      subst (λ xs. Follows h (record parts { links = xs }))
      (sym (is ∙ back _ ∙ ap (set parts.links p)
      (ap (λ x. in_state x link) same_state ∙ with_state)))
      (room_follows t j held.at held.first held.roomy)

  -- other links are found as before
  others_found : (test : KeptLink → Bool) → test (get_or parts.links p v) ≡ false → find test left
      ≡ find test parts.links
  others_found test not_it = ap (find test) (held.others ∙ changed_before parts.links p w)
      ∙ found_beside test parts.links p v here not_it

  pub beside_same : dialled_peer s ≡ None → (state : LinkState)
      → dial_beside state left ≡ dial_beside state parts.links
  beside_same none (LinkState.Reply r) = ap (option_map (λ (x : KeptLink). x.number))
      (others_found (λ x. option_map_or (λ n. same n r.peer) (dialled_peer x.state) false)
      (grind (arith, ap dialled_peer held_is, none)))
  beside_same none state = refl

  pub older_same : up_peer s ≡ None → (n : List ℕ) → older_of n left ≡ older_of n parts.links
  older_same none n = ap (option_map (λ (x : KeptLink). x.number))
      (others_found (λ x. option_map_or (λ m. same m n) (up_peer x.state) false)
      (grind (arith, ap up_peer held_is, none)))

  -- and as many of them pass a test of their states that it fails itself
  others_pass : (f : LinkState → Option (List ℕ)) → f s ≡ None → (n : List ℕ)
      → list_any (λ x. option_map_or (λ m. same m n) (f x.state) false) left
      ≡ list_any (λ x. option_map_or (λ m. same m n) (f x.state) false) parts.links
  others_pass f none n =
      let test : KeptLink → Bool = λ x. option_map_or (λ m. same m n) (f x.state) false in
      any_found test left
      ∙ ap is_some (others_found test (grind (arith, ap f held_is, none)))
      ∙ sym (any_found test parts.links)

  pub ups_beside : up_peer s ≡ None → (n : List ℕ)
      → is_up (beside left) n ≡ is_name_up n h.entries
  ups_beside none n = ups_are h t.sound.played parts.links t.links n left
      (others_pass up_peer none n)

  pub dials_beside : dialled_peer s ≡ None → (n : List ℕ)
      → is_dialled (beside left) n ≡ is_dialling n h.entries
  dials_beside none n =
      dials_are h t.sound.played parts.links t.links n left (others_pass dialled_peer none n)
