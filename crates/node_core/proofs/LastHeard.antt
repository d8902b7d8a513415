-- What the last frame of a handshake makes of a node: its link comes up, or ends.
use Rattle.node_core.proofs
use proofs.Words.{Accepted, AllZip, answer, ap, ArePartings, arith, awaits, Bool, Change, cond}
use proofs.Words.{count_after_drop, discovers, Entry, Event, facts, false, Follows, get_or}
use proofs.Words.{get_or-set_same, HaveComeUp, HaveEnded, Heard, heard, Hears, History, is_full}
use proofs.Words.{is_handshake, is_last, is_open, is_some, is_whole, IsAlone, IsCutOff, IsState}
use proofs.Words.{IsStep, just, KeptLink, known_peer, leb-true, length, lie, link_place, link_words}
use proofs.Words.{Linked, LinksFollow, LinkState, List, listed, map, may_tell, Message, moved_on}
use proofs.Words.{narrow_frames, older_of, OutFrame, Parts, Pending, Pid, present_link, refl}
use proofs.Words.{Refused, Reply, Rule, Running, same, scope_words, set, Some, StatelessLink}
use proofs.Words.{stopped_lists, subst, sym, told, true, unwrap_or, wide, with_room, without_link}
use proofs.Words.{ℕ, [], ◌++◌, ◌<◌, ◌∙◌, ◌∷◌, ◌≡◌, ◌≤◌}
use proofs.Entered.{accepted_now, answered_now, made, next_now, step_follows}
use proofs.Found.{some_is}
use proofs.HeardFrames.{heard_leads, is_last_state, is_there, last_facts, last_state, state_there}
use proofs.HeardFrames.{unwhole_quiet}
use proofs.HeldLink.{held_broke, held_moved, held_number, held_seen, held_state, IsHeld, older_same}
use proofs.CameUp.{answered_up, but_replaced, came_up_moves, comes, ComesUp, older_present}
use proofs.CameUp.{visible_now}
use Rattle.policy_audit.proofs.HeardNow.{proved_heard}
use Rattle.policy_audit.proofs.RowsAfter.{up_rows}
use proofs.MovedOn.{moved_follow, still_unbegun}
use proofs.Partings.{partings_change}
use proofs.ScopesCutOff.{AreCutOff, cut_off_follow}
use proofs.FrameRules.{last_rules}

-- a Discover for each scope that runs
pub discovers_for : (rs : List Running)
    → map (λ r. wide (Message.Discover r.scope)) rs
    ≡ map (λ s. wide (Message.Discover s)) (map (λ r. r.scope) rs)
discovers_for [] = refl
discovers_for (r ∷ rs) = grind (arith, discovers_for rs)

module _ (h : History) (seat j : ℕ) (body : List ℕ) (up : Linked) (frames : List (List ℕ))
    (c : ComesUp h j body up frames) (r : Reply) (cs : List Change) where
  abbrev pub e : Entry
  e = made h seat (Event.Frame j body) (Accepted r) cs

  abbrev pub k : History
  k = just h e

  module _ (space : is_full h ≡ false) (is : answer h seat (Event.Frame j body) ≡ r) where
    up_answered : IsStep h e
    up_answered = answered_now h seat (Event.Frame j body) space (Accepted r) cs
        (accepted_now h seat (Event.Frame j body) space r (c.holds seat) is)

    module _ (parts : Parts) (t : Follows h parts) where
      rows : (s g : List ℕ) (p : Pid)
          → listed k s g p ≡ cond (same p.node up.peer) 0 (listed h s g p)
      rows s g p =
          up_rows h t.sound.played e up_answered refl j body refl up.peer c.last c.known.peer.peer
          c.known.peer.other s g p

      pub up_next : ArePartings (λ x. count_after_drop x up.peer) parts.scopes cs → IsAlone h e
      up_next gone = next_now h seat (Event.Frame j body) space (Accepted r) cs
          (accepted_now h seat (Event.Frame j body) space r (c.holds seat) is)
          (partings_change h k (λ x. count_after_drop x up.peer)
          (λ x a g p. ap (cond (same p.node up.peer) 0) (a.rows g p) ∙ sym (rows x.scope g p))
          parts.scopes t.scopes
          (λ s stopped g p. rows s g p ∙ (grind (arith, stopped_lists h s g p stopped))) cs gone)

      -- over which link the peer was heard, if at all
      abbrev old_one : ℕ
      old_one = unwrap_or (present_link up.peer h.entries) j

      scopes_cut_off : AreCutOff old_one up.peer (scope_words h) (scope_words k)
      scopes_cut_off = record {
        own = refl;
        running = refl;
        listed = rows;
        heard =
            λ l s. grind (
              arith,
              (proved_heard h t.sound.played e up_answered refl j body refl up.peer c.last
                  c.known.peer.peer l s).heard_is,
              but_replaced h t.sound.played up.peer j c.unwhole l (heard h.opening l s h.entries),
            );
        told =
            λ l s. grind (
              arith,
              (proved_heard h t.sound.played e up_answered refl j body refl up.peer c.last
                  c.known.peer.peer l s).told_is,
              but_replaced h t.sound.played up.peer j c.unwhole l (told h.opening l s h.entries),
            );
      }

      module _ (p : ℕ) (d : KeptLink) (less : p < length parts.links)
          (there : (get_or parts.links p d).number ≡ j) where
        discovers_are : cond up.visible (map (λ x. wide (Message.Discover x.scope)) parts.scopes) []
            ≡ discovers h j
        discovers_are =
            λ i. cond (sym (visible_now h j body up frames c) i)
            ((discovers_for parts.scopes ∙ ap (map (λ s. wide (Message.Discover s)))
            t.scopes.running) i) []

        pub up_follows : IsAlone h e → (room : ℕ) (asked : List OutFrame)
            → asked ≡ map (λ x. wide (Message.Discover x.scope)) parts.scopes
            → (left new : List KeptLink) → older_of up.peer left ≡ older_of up.peer parts.links
            → new ≡ without_link (older_of up.peer left)
            (set parts.links p
            (moved_on (LinkState.Up up) (narrow_frames frames ++ cond up.visible asked []) room
            (get_or parts.links p d)))
            → (scopes : List Running)
            → AllZip (IsCutOff (unwrap_or (older_of up.peer left) j) up.peer) parts.scopes
            scopes → Follows k (record parts { links = new; scopes = scopes })
        up_follows next room asked these left new same_older is scopes cut =
            step_follows t next refl t.admission t.processes
            (cut_off_follow old_one up.peer (scope_words h) (scope_words k) scopes_cut_off
            parts.scopes scopes t.scopes
            (rw (same_older ∙ older_present h t.sound.played up.peer parts.links t.links) at cut))
            (subst (LinksFollow (link_words k)) (sym (
            is
            ∙ (λ i. without_link
            ((same_older ∙ older_present h t.sound.played up.peer parts.links t.links) i)
            (set parts.links p
            (moved_on (LinkState.Up up)
            (narrow_frames frames ++ (ap (λ fs. cond up.visible fs []) these ∙ discovers_are) i)
            room (get_or parts.links p d))))))
            (moved_follow h k t.sound.played j (LinkState.Up up)
            (narrow_frames frames ++ discovers h j) (present_link up.peer h.entries)
            (still_unbegun h t.sound.played e j body refl c.unwhole)
            (came_up_moves h t.sound.played j body up frames c e up_answered refl refl) parts.links
            t.links p d less there room))

-- the peer of a link that awaits the last frame is known, seen while it stands at its place with
-- more room
pub last_has_peer : {h : History} {parts : Parts} → Follows h parts
    → (j : ℕ) {p : ℕ} {v w x : KeptLink} → link_place j parts.links ≡ Some p → v
    ≡ get_or parts.links p v → w ≡ with_room v w.room
    → x ≡ get_or (set parts.links p w) p x → is_open j h.entries ≡ true
    → is_last (awaits j h.entries) ≡ true → is_some (known_peer x.state) ≡ true
last_has_peer {h} {parts} t j {p} {v} {w} {x} at first roomy seen opens final =
    grind (
      arith,
      last_state (facts h j) x.state
          (subst (IsState (facts h j)) (sym state) (state_there t j at v)) opens final,
    )
  where
    state : x.state ≡ (get_or parts.links p v).state
    state = ap (λ (z : KeptLink). z.state)
        (seen ∙ get_or-set_same parts.links p w x (is_there t j at v).0 ∙ roomy
        ∙ ap (λ (z : KeptLink). with_room z w.room) first)

module _ {h : History} {parts : Parts} (t : Follows h parts) (seat : ℕ) (body : List ℕ) {j p : ℕ}
    {v w out : KeptLink} {s : LinkState} {link : StatelessLink} {left : List KeptLink}
    (held : IsHeld h parts.links j p v w out s link left)
    (final : is_last (awaits j h.entries) ≡ true) where
  late : is_last_state s ≡ true
  late = last_state (facts h j) s (held_state t held) held.opens final

  pub handshakes : is_handshake s ≡ true
  handshakes = grind (arith, late)

  unwhole : is_whole j h.entries ≡ false
  unwhole = (last_facts (facts h j) s (held_state t held) late).1

  -- no message is owed
  pub last_quiet : may_tell h.opening h.entries (Event.Frame j body) ≡ false
  last_quiet = unwhole_quiet h j body unwhole

  module _ (pending : Pending) where
    pub last_never_on : (now : LinkState) (frames : List (List ℕ)) (gives_up : Bool)
        → Hears parts.admission pending s body (Heard.On now frames gives_up) → ⊥
    last_never_on now frames gives_up hears =
        lie (sym (heard_leads parts.admission pending body s (Heard.On now frames gives_up) hears.1)
        ∙ (grind (arith, late)))

    module _ (r : Rule) (frames : List (List ℕ))
        (hears : Hears parts.admission pending s body (Heard.Ended r frames)) where
      pub last_broke : (new : List KeptLink) → HaveEnded p link frames left new
          → IsAlone h (made h seat (Event.Frame j body) (Refused r) [])
          × Follows (just h (made h seat (Event.Frame j body) (Refused r) []))
          (record parts { links = new })
      last_broke new ends = held_broke t held seat body unwhole parts.admission pending
          (last_rules h parts.admission t.admission pending seat j body s late (held_state t held))
          r frames hears new ends

    module _ (up : Linked) (frames : List (List ℕ))
        (hears : Hears parts.admission pending s body (Heard.Up up frames)) where
      it : ComesUp h j body up frames × (known_peer s ≡ Some up.peer)
      it = comes h j parts.admission t.admission body pending s late (held_state t held) up frames
          hears

      pub last_few : length frames ≤ 2
      last_few = grind (
        arith,
        leb-true (length frames) 2,
        heard_leads parts.admission pending body s (Heard.Up up frames) hears.1,
      )

      -- the peer as it was named before, and the answer
      module _ {seen : KeptLink} (again : seen ≡ get_or (set parts.links p w) p seen)
          {peer : List ℕ} (known : known_peer seen.state ≡ Some peer) {r : Reply}
          (q : r ≡ Reply.Up peer up.creation up.visible) (cs : List Change)
          {running : List Running} (these : running ≡ parts.scopes)
          (gone : ArePartings (λ x. count_after_drop x peer) running cs) where
        peer_is : peer ≡ up.peer
        peer_is = some_is (sym known ∙ ap known_peer (held_seen t held again) ∙ it.1)

        reply_is : answer h seat (Event.Frame j body) ≡ r
        reply_is = answered_up h j body up frames it.0 seat
            ∙ sym (q ∙ ap (λ n. Reply.Up n up.creation up.visible) peer_is)

        pub last_next : IsAlone h (made h seat (Event.Frame j body) (Accepted r) cs)
        last_next = up_next h seat j body up frames it.0 r cs held.space reply_is parts t
            (rw (peer_is, these) at gone)

        pub last_came_up : (new : List KeptLink) {asked : List OutFrame}
            → asked ≡ map (λ x. wide (Message.Discover x.scope)) running
            → HaveComeUp p link up frames asked left new
            → (scopes : List Running)
            → AllZip (IsCutOff (unwrap_or (older_of up.peer left) link.number) up.peer)
            parts.scopes scopes
            → Follows (just h (made h seat (Event.Frame j body) (Accepted r) cs))
            (record parts { links = new; scopes = scopes })
        last_came_up new {asked} discover ups scopes cut =
            let there = is_there t j held.at v in
            up_follows h seat j body up frames it.0 r cs held.space reply_is parts t p v there.0
            there.1
            last_next ups.room asked
            (discover ∙ ap (map (λ (x : Running). wide (Message.Discover x.scope))) these) left
            new (older_same t held (grind (arith, late)) up.peer)
            (held_moved t held (LinkState.Up up) (narrow_frames frames ++ cond up.visible asked [])
            (older_of up.peer left) new ups)
            scopes (rw (held_number t held) at cut)
