-- Links that are lost or given up.
use Rattle.node_core.proofs
use Rattle.policy_audit.proofs as policy
use proofs.Words.{Accepted, agrees, and-true, and_both, ap, AreCut, AreLost, arith, Bool, Change}
use proofs.Words.{cond, count_after_drop, Entry, eqb-true, Event, facts, false, filter, flip}
use proofs.Words.{Follows, get_or, heard, History, is_full, is_open, is_up, is_whole, IsAlone}
use proofs.Words.{IsChange, IsHeardNow, IsLinkOf, IsSameLink, IsState, IsStep, just, KeptLink}
use proofs.Words.{length, link_place, link_words, LinksFollow, LinkState, List, listed, nat_eq}
use proofs.Words.{next_number, no_change, no_value, None, not, Option, option_map_or, Parts}
use proofs.Words.{peer_of, Pid, position, position-Some, present_link, refl, Reply, Running}
use proofs.Words.{running_scopes, same, scope_words, ScopesFollow, Some, stopped_lists, subst, sym}
use proofs.Words.{told, true, up_peer, waiting, without_number, ℕ, [], ◌&&◌, ◌<◌, ◌==◌, ◌∙◌, ◌≡◌}
use policy.LinkFrames.{disconnected_links, lost_links}
use policy.LinksLeft.{disconnected_numbers, facts_left, lost_numbers}
use policy.HeardNow.{disconnected_heard, lost_heard}
use policy.RowsAfter.{disconnected_rows, lost_other, lost_rows}
use proofs.Entered.{accepted_next, answered_by, made, step_follows}
use proofs.Found.{some_is}
use proofs.KeptOn.{each_at, facts_same, is_kept_at, link_at, same_link, stay_follow}
use proofs.LinkTests.{peer_by_test}
use policy.KeptNumbers.{kept_numbers}
use proofs.Partings.{partings_change}
use proofs.ScopesCutOff.{AreCutOff, cut_off_follow}

-- ---- a link that is gone

-- link j is gone after k, and nothing else is said of other links
pub record IsGone (h k : History) (j : ℕ) : Type 0 where
  pub name : k.opening ≡ h.opening
  pub same : (l : ℕ) → (j == l) ≡ false → IsSameLink l h.entries k.entries
  pub opens : (l : ℕ) → is_open l k.entries ≡ (is_open l h.entries && not (j == l))
  pub waits : (l : ℕ) → waiting k l ≡ cond (j == l) [] (waiting h l)
  pub numbers : kept_numbers k ≡ filter (λ l. not (j == l)) (kept_numbers h)
  pub running : running_scopes k ≡ running_scopes h
  pub heard : (l : ℕ) (s : List ℕ)
      → IsHeardNow k l s (heard h.opening l s h.entries && not (j == l))
      (told h.opening l s h.entries && not (j == l))

module _ (h k : History) (j : ℕ) (gone : IsGone h k j) where
  other_facts : (l : ℕ) → (j == l) ≡ false → facts k l ≡ facts h l
  other_facts l other =
      facts_same h k gone.name l (gone.same l other)
      (gone.opens l ∙ ap (λ b. is_open l h.entries && not b) other ∙ and-true (is_open l h.entries))

  other_link : (x : KeptLink) → (j == x.number) ≡ false → IsLinkOf (link_words h) x
      → IsLinkOf (link_words k) x
  other_link x other it =
      same_link x (other_facts x.number other) (gone.waits x.number ∙ grind (arith, other)) it

  pub gone_links : (kept : List KeptLink) → LinksFollow (link_words h) kept
      → LinksFollow (link_words k) (without_number j kept)
  gone_links kept t = stay_follow (link_words h) (link_words k) (λ l. not (nat_eq l j)) kept t
      (gone.numbers ∙ (λ i. filter (λ l. not (flip j l i)) (kept_numbers h)))
      (λ x stays it. other_link x (grind (arith, flip j x.number)) it)

  -- ---- a link that isn't up

  module _ (down : is_up j h.entries ≡ false)
      (rows : (s g : List ℕ) (p : Pid) → listed k s g p ≡ listed h s g p) where
    unless_gone : (l : ℕ) (x : Bool) → (is_up l h.entries ≡ false → x ≡ false)
        → (x && not (j == l)) ≡ x
    unless_gone l x quiet = grind (arith, eqb-true j l)

    still_scopes : scope_words k ≡ scope_words h
    still_scopes = λ i. record {
      own = (gone.name i).name;
      running = gone.running i;
      listed = λ s g p. rows s g p i;
      heard = λ l s.
          ((gone.heard l s).heard_is
          ∙ unless_gone l (heard h.opening l s h.entries) (λ d. rw d refl)) i;
      told = λ l s.
          ((gone.heard l s).told_is ∙ unless_gone l (told h.opening l s h.entries) (λ d. rw d refl))
          i;
    }

  -- ---- a link that was up with n

  module _ (n : List ℕ) (rows : (s g : List ℕ) (p : Pid)
      → listed k s g p ≡ cond (same p.node n) 0 (listed h s g p)) where
    cut_words : AreCutOff j n (scope_words h) (scope_words k)
    cut_words = record {
      own = ap (λ o. o.name) gone.name;
      running = gone.running;
      listed = rows;
      heard = λ l s. grind (arith, (gone.heard l s).heard_is, flip j l);
      told = λ l s. grind (arith, (gone.heard l s).told_is, flip j l);
    }

  -- ---- both

  -- how often a process is listed now that the link is gone, which was up with this peer if it was
  -- up
  abbrev pub RowsGone : Option (List ℕ) → Type 0
  RowsGone None = (s g : List ℕ) (p : Pid) → listed k s g p ≡ listed h s g p
  RowsGone (Some n) = (s g : List ℕ) (p : Pid)
      → listed k s g p ≡ cond (same p.node n) 0 (listed h s g p)

  pub gone_change : (o : Option (List ℕ)) → RowsGone o → (rs : List Running) (cs : List Change)
      → AreLost o rs cs → ScopesFollow (scope_words h) rs → IsChange h k cs
  gone_change None rows rs cs none t =
      subst (IsChange h k) (sym none) (no_change h k (λ s g p. sym (rows s g p)))
  gone_change (Some n) rows rs cs lost t = partings_change h k (λ x. count_after_drop x n)
      (λ r u g p. ap (cond (same p.node n) 0) (u.rows g p) ∙ sym (rows r.scope g p))
      rs t (λ s stopped g p. rows s g p ∙ ap (cond (same p.node n) 0)
      (stopped_lists h s g p stopped) ∙ (grind arith)) cs lost

  pub gone_scopes : (o : Option (List ℕ)) → (o ≡ None → is_up j h.entries ≡ false) → RowsGone o
      → (old new : List Running) → AreCut j o old new → ScopesFollow (scope_words h) old
      → ScopesFollow (scope_words k) new
  gone_scopes None down rows old new same_scopes t =
      subst (λ w. ScopesFollow w new) (sym (still_scopes (down refl) rows))
      (subst (ScopesFollow (scope_words h)) (sym same_scopes) t)
  gone_scopes (Some n) down rows old new cuts t =
      cut_off_follow j n (scope_words h) (scope_words k) (cut_words n rows) old new t cuts

-- ---- whether a link is up, by its state

pub down_by : (h : History) (l : ℕ) (s : LinkState) → IsState (facts h l) s → up_peer s ≡ None
    → is_up l h.entries ≡ false
down_by h l (LinkState.Up s) t q = no_value q
down_by h l LinkState.Ended t q = grind (arith, t)
down_by h l s t q = grind (arith, t.0.whole)

-- the link is up with n, which is another node
pub record IsUpWith (h : History) (l : ℕ) (n : List ℕ) : Type 0 where
  pub up : is_up l h.entries ≡ true
  pub peer : peer_of l h.entries ≡ Some n
  pub other : same n h.opening.name ≡ false

pub up_with : (h : History) (l : ℕ) (s : LinkState) (n : List ℕ) → IsState (facts h l) s
    → up_peer s ≡ Some n → IsUpWith h l n
up_with h l (LinkState.Up s) n t q =
    subst (IsUpWith h l) (some_is q)
    (record {
      up = and_both (is_open l h.entries) (is_whole l h.entries) t.0.open_now t.0.whole;
      peer = t.1.peer.peer;
      other = t.1.peer.other;
    })
up_with h l s n t q = no_value (sym q)

-- ---- a link that is lost

-- by an accepted Lost of link j
pub gone_by : (h : History) (number seat j : ℕ) (cs : List Change)
    → IsGone h (just h
    (record {
      number = number;
      seat = seat;
      event = Event.Lost j;
      verdict = Accepted Reply.Done;
      change = cs;
    })) j
gone_by h number seat j cs =
    let e : Entry =
    record {
      number = number;
      seat = seat;
      event = Event.Lost j;
      verdict = Accepted Reply.Done;
      change = cs;
    } in
    record {
      name = refl;
      same = λ l apart. facts_left h.entries e refl l;
      opens = λ l. (lost_links h e refl j refl l).open_is;
      waits = λ l. (lost_links h e refl j refl l).waiting_is;
      numbers = lost_numbers h e refl j refl;
      running = refl;
      heard = lost_heard h e refl j refl;
    }

module _ (h : History) (seat j : ℕ) (cs : List Change) (parts : Parts) (t : Follows h parts) (p : ℕ)
    (d : KeptLink) (found : link_place j parts.links ≡ Some p) where
  abbrev loss : Entry
  loss = made h seat (Event.Lost j) (Accepted Reply.Done) cs

  abbrev link : KeptLink
  link = get_or parts.links p d

  it : IsLinkOf (link_words h) link × (link.number ≡ j) × (p < length parts.links)
  it = link_at h t.sound.played parts.links t.links j p d found

  its_state : IsState (facts h j) link.state
  its_state = subst (λ l. IsState (facts h l) link.state) it.1 it.0.state

  lost_gone : IsGone h (just h loss) j
  lost_gone = gone_by h (next_number h) seat j cs

  lost_listed : IsStep h loss → (o : Option (List ℕ)) → up_peer link.state ≡ o
      → RowsGone h (just h loss) j lost_gone o
  lost_listed answered None q =
      lost_other h t.sound.played loss answered refl j refl (down_by h j link.state its_state q)
  lost_listed answered (Some n) q =
      (let up = up_with h j link.state n its_state q in
      lost_rows h t.sound.played loss answered refl j n refl up.up up.peer up.other)

  pub lost : is_full h ≡ false → AreLost (up_peer link.state) parts.scopes cs
      → (scopes : List Running) → AreCut link.number (up_peer link.state) parts.scopes scopes
      → IsAlone h loss
      × Follows (just h loss)
      (record parts { scopes = scopes; links = filter (λ x. not (nat_eq x.number j)) parts.links })
  lost space gone scopes cuts =
      let next = accepted_next h seat (Event.Lost j) space Reply.Done cs
      (rw (is_kept_at h t.sound.played parts.links t.links j p found)) refl
      (λ its. gone_change h (just h loss) j lost_gone (up_peer link.state)
      (lost_listed its (up_peer link.state) refl) parts.scopes cs gone t.scopes) in (
        next,
        step_follows t next refl t.admission t.processes
            (gone_scopes h (just h loss) j lost_gone (up_peer link.state)
            (down_by h j link.state its_state)
            (lost_listed (answered_by next) (up_peer link.state) refl)
            parts.scopes scopes (subst (λ l. AreCut l (up_peer link.state) parts.scopes scopes) it.1
            cuts) t.scopes)
            (gone_links h (just h loss) j lost_gone parts.links t.links),
      )

-- ---- a link that is given up

module _ (h : History) (seat : ℕ) (n : List ℕ) (cs : List Change) (parts : Parts)
    (t : Follows h parts) where
  module _ (p : ℕ) (d : KeptLink)
      (found : position (λ x. option_map_or (λ m. same m n) (up_peer x.state) false) parts.links
      ≡ Some p) where
    abbrev parting : Entry
    parting = made h seat (Event.Disconnect n) (Accepted Reply.Done) cs

    abbrev last : KeptLink
    last = get_or parts.links p d

    place : (p < length parts.links)
        × (option_map_or (λ m. same m n) (up_peer last.state) false ≡ true)
    place = let is =
        position-Some (λ x. option_map_or (λ m. same m n) (up_peer x.state) false) parts.links p d
        found in (is.0, is.1)

    here : IsLinkOf (link_words h) last
    here = each_at (IsLinkOf (link_words h)) parts.links p d t.links.each place.0

    peer_is : up_peer last.state ≡ Some n
    peer_is = peer_by_test n (up_peer last.state) place.1

    its_up : IsUpWith h last.number n
    its_up = up_with h last.number last.state n here.state peer_is

    present : present_link n h.entries ≡ Some last.number
    present = (agrees h.opening h.entries t.sound.played n last.number).1 (its_up.up, its_up.peer)

    parting_gone : IsGone h (just h parting) last.number
    parting_gone = record {
      name = refl;
      same = λ l apart. facts_left h.entries parting refl l;
      opens =
          λ l. (disconnected_links h parting refl t.sound.played n last.number present refl
          l).open_is;
      waits =
          λ l. (disconnected_links h parting refl t.sound.played n last.number present refl
          l).waiting_is;
      numbers = disconnected_numbers h parting refl t.sound.played n last.number present refl;
      running = refl;
      heard = disconnected_heard h parting refl t.sound.played n last.number present refl;
    }

    parting_listed : IsStep h parting
        → RowsGone h (just h parting) last.number parting_gone (up_peer last.state)
    parting_listed answered =
        subst (RowsGone h (just h parting) last.number parting_gone) (sym peer_is)
        (disconnected_rows h t.sound.played parting answered refl n refl its_up.other)

    pub parted : is_full h ≡ false → AreLost (up_peer last.state) parts.scopes cs
        → (scopes : List Running) (number : ℕ) → number ≡ last.number
        → AreCut last.number (up_peer last.state) parts.scopes scopes
        → IsAlone h parting
        × Follows (just h parting)
        (record parts {
          scopes = scopes;
          links = filter (λ x. not (nat_eq x.number number)) parts.links;
        })
    parted space lost scopes number is cuts =
        let next = accepted_next h seat (Event.Disconnect n) space Reply.Done cs (rw present) refl
        (λ its. gone_change h (just h parting) last.number parting_gone (up_peer last.state)
        (parting_listed its) parts.scopes cs lost t.scopes) in (
          next,
          step_follows t next refl t.admission t.processes
              (gone_scopes h (just h parting) last.number parting_gone (up_peer last.state)
              (down_by h last.number last.state here.state) (parting_listed (answered_by next))
              parts.scopes scopes cuts t.scopes)
              (rw is (gone_links h (just h parting) last.number parting_gone parts.links t.links)),
        )
