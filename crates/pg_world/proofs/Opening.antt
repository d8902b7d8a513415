-- A dial and an acceptance keep the invariant: the link that is opened becomes the end of a wire,
-- or the opening is refused.
use Rattle.pg_world.specs
use Rattle.pg_world.proofs
use proofs.Words.{Accepted, accepted, all_handed, answer, ap, append-nil, arith, asks, asks_opened}
use proofs.Words.{bodies, ByDial, ByPeer, came_of, Carries, changed, dialled, entered, Entry}
use proofs.Words.{eq-eqb, Err, Event, frames_of, gets_of, handed_of, HasEnd, History, is_accepted}
use proofs.Words.{IsEnd, IsNext, IsPlayed, IsWorld, IsWritten, just, length, link_at, link_opened}
use proofs.Words.{List, new_wire, next_number, next_step, no_value, node_at, Nodes, None, Ok}
use proofs.Words.{opened_number, opener, opening_of, Option, other, refl, Refused, Refuses, Reply}
use proofs.Words.{Result, sent, Side, slice_get, slice_set, Some, stands_first, stands_last, Start}
use proofs.Words.{start_of, subst, sym, true, Turn, turn_of, unborn_out, Verdict, Wire, wire_opener}
use proofs.Words.{with_link, world, WorldFault, ℕ, [], ◌++◌, ◌+◌, ◌<◌, ◌∙◌, ◌∷◌, ◌≡◌}
use proofs.Calling.{apart_as, apart_kept, asks_kept, IsApart, refused_none}
use proofs.Ends.{none_early}
use proofs.Entering.{after, carries_as_before, legal, Makes, makes, none_came, none_handed}
use proofs.Entering.{now_here, onward, same_ends, stays_wired}
use proofs.Next.{Keeps, says}
use proofs.Puts.{changed_is, found, found_last, get_same, IsFound, Kept, Put, value_of}
use proofs.Refusals.{same_wire}
use proofs.Steady.{ends_kept, good, IsGood, IsLinkFrom, NewLink, stays, WasLink}
use Rattle.policy_audit.specs.declared.event.Event.TheVariants as event
use Rattle.policy_audit.specs.declared.reply.Reply.TheVariants as reply
use specs.declared.side.Side.TheVariants as side
use specs.declared.world_step.WorldStep.TheVariants as step
use specs.declared.fault.WorldFault.TheVariants as fault

-- ---- nothing came or was handed out on a link before that was opened

left_nil : {A : Type 0} (xs ys : List A) → xs ++ ys ≡ [] → xs ≡ []
left_nil [] ys q = refl
left_nil (x ∷ xs) ys q = no_value (ap (λ v. slice_get v 0) q)

none_sent : (h : History) → IsPlayed h → (l : ℕ) → entered h.entries < l → sent l h.entries ≡ []
none_sent h legal l above = (let it = all_handed h.opening h.entries legal l in
    left_nil (sent l h.entries) it.rest
    (it.all ∙ ap frames_of (unborn_out h.opening h.entries legal l above)))

-- where there is no link nothing came, nothing was handed out, and more may come
no_link : (o : Option History) → (came_of o None ≡ []) × (handed_of o None ≡ [])
    × (gets_of o None ≡ true)
no_link None = (refl, refl, refl)
no_link o = (refl, refl, refl)

-- ---- an entry that opens a link

-- an accepted event that starts a link is answered its number
number_answered : (h : History) (x : Entry) (e : Event) (r : Reply) → x.event ≡ e → IsNext h x
    → x.verdict ≡ Accepted r → answer h x.seat e ≡ reply.Link (next_number h)
    → r ≡ reply.Link x.number
number_answered h x e r is next v link = (accepted h x.seat x.event r (sym v
    ∙ (next_step h x next).judged)).1
    ∙ ap (answer h x.seat) is ∙ link ∙ ap reply.Link (sym next.number)

-- a numbered entry, with which no frame comes and none is handed out
record IsNewEntry {w : Nodes} (m : Makes w) : Type 0 where
  number : m.e.number ≡ entered m.h.entries + 1
  apart : IsApart m.e.event

module _ {w : Nodes} {m : Makes w} (new : IsNewEntry m) where
  open m use {sound, i, h, e, here}
  open new use {number, apart}

  above : entered h.entries < e.number
  above = omega (arith, number)

  came_none : came_of (slice_get (after m) i) (Some e.number) ≡ []
  came_none = ap (λ o. came_of o (Some e.number)) (now_here m) ∙ (λ k. none_early h.entries
      (sound.late i h here) e.number above k ++ apart.none_in e.number k)

  handed_none : handed_of (slice_get (after m) i) (Some e.number) ≡ []
  handed_none = ap (λ o. handed_of o (Some e.number)) (now_here m) ∙ (λ k. bodies
      (none_sent h (legal m) e.number above k ++ apart.none_out e.number e.verdict k))

  -- an accepted entry that starts a link opens it
  opens_it : is_accepted e.verdict ≡ true → (st : Start) → start_of e.event ≡ Some st
      → opening_of e.number (e ∷ h.entries) ≡ Some st
  opens_it accepts st starts = grind (arith, eq-eqb e.number e.number refl)

  still_carries : (n : ℕ) (x : Wire) → slice_get w.wires n ≡ Some x → (to : Side)
      → Carries (after m) x to
  still_carries n x stands to = carries_as_before m n x stands to
      (none_came m apart.none_in (node_at to x) (link_at to x))
      (none_handed m (λ l. apart.none_out l e.verdict) (node_at (other to) x)
      (link_at (other to) x))

  -- a wire is put that has the new link at a side
  opens_world : (place : ℕ) (at : Side) (y : Wire) (ys : List Wire)
      → ((n : ℕ) (z : Wire) → slice_get ys n ≡ Some z → IsFound w.wires place y n z)
      → ((k l : ℕ) → HasEnd w.wires k l → HasEnd ys k l) → slice_get ys place ≡ Some y
      → node_at at y ≡ i → link_at at y ≡ Some e.number → IsGood m place at place y
      → IsWorld (world (after m) ys)
  opens_world place at y ys from forth stands node link it = stays m place at ys
      (λ n z q. by n z (from n z q)) forth
      (λ l q. subst (HasEnd ys i) (opened_number l e q) (record {
        number = place;
        wire = y;
        at = at;
        stands = stands;
        ends = record { node = node; link = link };
      }))
    where
      by : (n : ℕ) (z : Wire) → IsFound w.wires place y n z → IsGood m place at n z
      by n z (Kept other its) = good m place at n z z its (same_ends z) (still_carries n z its)
      by n z (Put is its) = rw (is, ← its) it

-- ---- a dial

module _ (w : Nodes) (sound : IsWorld w) (i j seat c : ℕ)
    (written : IsWritten (event.Dial [] c)) where
  module _ (k : History) (there : slice_get w.nodes j ≡ Some k) (h : History) (x : Entry)
      (here : slice_get w.nodes i ≡ Some h) (is : x.event ≡ event.Dial k.opening.name c)
      (next : IsNext h x) where
    dial_apart : IsApart x.event
    dial_apart = apart_as (event.Dial k.opening.name c) is refl

    abbrev dialling : Makes w
    dialling = makes w sound i h x here next (subst IsWritten (sym is) written)
        (dial_apart.late h.entries)

    dial_new : IsNewEntry dialling
    dial_new = record { number = next.number; apart = dial_apart }

    abbrev made : Wire
    made = dialled i j x.number

    made_good : is_accepted x.verdict ≡ true
        → IsGood dialling (length w.wires) side.Dialler (length w.wires) made
    made_good accepts = (let b = onward dialling j k there in record {
      wired = record {
        dialler = just h x;
        acceptor = b.later;
        challenge = c;
        from_stands = now_here dialling;
        to_stands = b.stands;
        dial = opens_it dial_new accepts (ByDial k.opening.name c) (ap start_of is)
            ∙ ap (λ o. Some (ByDial o.name c)) (sym b.opening);
        opening = λ l q. no_value (sym q);
      };
      carried = carried;
      links = links;
    })
      where
        carried : (to : Side) → Carries (after dialling) made to
        carried side.Dialler gets =
            append-nil (came_of (slice_get (after dialling) i) (Some x.number))
            ∙ came_none dial_new ∙ sym (no_link (slice_get (after dialling) j)).1
        carried side.Acceptor gets =
            append-nil (came_of (slice_get (after dialling) j) None)
            ∙ (no_link (slice_get (after dialling) j)).0 ∙ sym (handed_none dial_new)

        links : (s : Side) (l : ℕ) → link_at s made ≡ Some l
            → IsLinkFrom dialling (length w.wires) side.Dialler (length w.wires) made s l
        links side.Dialler l q =
            let high = above dial_new in
            let same : x.number ≡ l = value_of q in
            NewLink refl refl refl (omega (arith, high, same))
        links side.Acceptor l q = no_value (sym q)

    dial_kept : (v : Verdict) → x.verdict ≡ v
        → IsWorld (world (after dialling) (w.wires ++ new_wire i j (link_opened (says v))))
    dial_kept (Accepted r) q = subst
        (λ a. IsWorld (world (after dialling) (w.wires ++ new_wire i j (link_opened (Ok a)))))
        (sym (number_answered h x (event.Dial k.opening.name c) r is next q refl))
        (opens_world dial_new (length w.wires) side.Dialler made (w.wires ++ made ∷ [])
        (found_last w.wires made)
        (λ a b it. record {
          number = it.number;
          wire = it.wire;
          at = it.at;
          stands = stands_first w.wires (made ∷ []) it.number it.wire it.stands;
          ends = it.ends;
        })
        (stands_last w.wires made) refl refl (made_good (ap is_accepted q)))
    dial_kept (Refused r) q = subst (λ ys. IsWorld (world (after dialling) ys))
        (sym (append-nil w.wires))
        (apart_kept dialling dial_apart (refused_none x (ap is_accepted q)))

  pub dials : Keeps w (step.Dial i j seat c) (turn_of w (step.Dial i j seat c))
  dials = by (slice_get w.nodes j) refl
    where
      by : (o : Option History) → slice_get w.nodes j ≡ o
          → Keeps w (step.Dial i j seat c)
          (elim o as (λ _. Turn) [
            | Some k ↦ asks w.nodes i seat (event.Dial k.opening.name c)
            | None ↦ Refuses fault.NoNode
          ])
      by (Some k) there = asks_kept w sound i seat (step.Dial i j seat c) (event.Dial k.opening.name
          c) (λ h x here is next goes. dial_kept k there h x here is next x.verdict refl)
      by None gone = tt

-- ---- an acceptance

module _ (w : Nodes) (sound : IsWorld w) (n seat c : ℕ) (written : IsWritten (event.Opened c)) where
  module _ (x : Wire) (stands : slice_get w.wires n ≡ Some x) (unopened : x.accepted ≡ None)
      (h : History) (e : Entry) (here : slice_get w.nodes x.to ≡ Some h)
      (is : e.event ≡ event.Opened c) (next : IsNext h e) where
    opening_apart : IsApart e.event
    opening_apart = apart_as (event.Opened c) is refl

    abbrev accepting : Makes w
    accepting = makes w sound x.to h e here next (subst IsWritten (sym is) written)
        (opening_apart.late h.entries)

    opening_new : IsNewEntry accepting
    opening_new = record { number = next.number; apart = opening_apart }

    abbrev joined : Wire
    joined = with_link (Some e.number) x

    joined_good : is_accepted e.verdict ≡ true → IsGood accepting n side.Acceptor n joined
    joined_good accepts =
        (let a = stays_wired accepting x x (same_ends x) (sound.wired n x stands) in record {
          wired = record {
            dialler = a.dialler;
            acceptor = a.acceptor;
            challenge = a.challenge;
            from_stands = a.from_stands;
            to_stands = a.to_stands;
            dial = a.dial;
            opening = λ l q. (
              c,
              cc (
                a.to_stands,
                now_here accepting,
                q,
                opens_it opening_new accepts (ByPeer c) (ap start_of is),
              ),
            );
          };
          carried = carried;
          links = links;
        })
      where
        carried : (to : Side) → Carries (after accepting) joined to
        carried side.Dialler gets =
            still_carries opening_new n x stands side.Dialler gets
            ∙ ap (handed_of (slice_get (after accepting) x.to)) unopened
            ∙ (no_link (slice_get (after accepting) x.to)).1 ∙ sym (handed_none opening_new)
        carried side.Acceptor gets =
            ap (λ v. v ++ bodies x.to_acceptor) (came_none opening_new
            ∙ sym (no_link (slice_get (after accepting) x.to)).0
            ∙ ap (came_of (slice_get (after accepting) x.to)) (sym unopened))
            ∙ still_carries opening_new n x stands side.Acceptor
            (ap (gets_of (slice_get (after accepting) x.to)) unopened
            ∙ (no_link (slice_get (after accepting) x.to)).2)

        same_nodes : (t : Side) → node_at t x ≡ node_at t joined
        same_nodes side.Dialler = refl
        same_nodes side.Acceptor = refl

        links : (s : Side) (l : ℕ) → link_at s joined ≡ Some l
            → IsLinkFrom accepting n side.Acceptor n joined s l
        links side.Dialler l q = WasLink x stands same_nodes q
        links side.Acceptor l q =
            let high = above opening_new in
            let same : e.number ≡ l = value_of q in
            NewLink refl refl refl (omega (arith, high, same))

    -- the ends of the wire that was joined
    ends : (s : Side) (k l : ℕ) → IsEnd x s k l → IsEnd joined s k l
    ends side.Dialler k l it = record { node = it.node; link = it.link }
    ends side.Acceptor k l it = no_value (sym it.link ∙ unopened)

    opening_kept : (v : Verdict) → e.verdict ≡ v
        → IsWorld (world (after accepting) (changed n (with_link (link_opened (says v))) w.wires))
    opening_kept (Accepted r) q =
        subst
        (λ a. IsWorld (world (after accepting) (changed n (with_link (link_opened (Ok a)))
        w.wires)))
        (sym (number_answered h e (event.Opened c) r is next q refl))
        (subst (λ ys. IsWorld (world (after accepting) ys))
        (sym (changed_is w.wires n x (with_link (Some e.number)) stands))
        (opens_world opening_new n side.Acceptor joined (slice_set w.wires n joined)
        (found w.wires n joined x stands) (ends_kept w.wires n x joined stands ends)
        (get_same w.wires n joined x stands) refl refl (joined_good (ap is_accepted q))))
    opening_kept (Refused r) q = subst (λ ys. IsWorld (world (after accepting) ys))
        (sym (same_wire w.wires n (with_link None) (λ v. refl)))
        (apart_kept accepting opening_apart (refused_none e (ap is_accepted q)))

  pub accepts : Keeps w (step.Accept n seat c) (turn_of w (step.Accept n seat c))
  accepts = by_wire (slice_get w.wires n) refl
    where
      by_wire : (o : Option Wire) → slice_get w.wires n ≡ o
          → Keeps w (step.Accept n seat c) (asks_opened (elim o as (λ _. Result ℕ WorldFault)
          [ Some x ↦ wire_opener w.nodes x | None ↦ Err fault.NoWire ]) seat c)
      by_wire None gone = tt
      by_wire (Some x) stands = by_node (slice_get w.nodes x.to) x.accepted refl
        where
          by_node : (o : Option History) (l : Option ℕ) → x.accepted ≡ l
              → Keeps w (step.Accept n seat c) (asks_opened (elim o as (λ _. Result ℕ WorldFault)
              [ Some k ↦ opener x l | None ↦ Err fault.NoNode ]) seat c)
          by_node (Some k) None q = λ h e here is next goes. opening_kept x stands q h e here is
              next e.verdict refl
          by_node x l q = tt
