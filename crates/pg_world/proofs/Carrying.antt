-- A world stays one where frames are handed out and come, and where a link is cut.
use Rattle.pg_world.specs
use Rattle.pg_world.proofs
use proofs.Words.{Accepted, ap, append-nil, arith, Asks, asks_frame, bodies, Bool, came, changed}
use proofs.Words.{changed_queue, cond, cut_by, ends, Entry, eq-eqb, false, handed, History, is_full}
use proofs.Words.{is_gone, is_kept, is_open, is_opened_by, IsLate, IsNext, IsWorld, IsWritten}
use proofs.Words.{joined_by, judged, leaves, left_by, lie, link_at, List, map-append, node_at}
use proofs.Words.{Nodes, None, not, Option, other, OutFrame, queue_at, refl, Refused, Rule, Side}
use proofs.Words.{slice_get, slice_set, Some, subst, sym, true, turn_of, under_way, Verdict}
use proofs.Words.{verdict, Wire, wires_after, world, ℕ, [], ◌&&◌, ◌++◌, ◌∙◌, ◌∷◌, ◌≡◌}
use proofs.Calling.{apart_as, IsApart, opens_none}
use proofs.Entering.{after, came_once, carries_as_before, carries_on, comes, ends_low, Fits}
use proofs.Entering.{fits_as_before, gets, goes, handed_once, Makes, makes, new_came, new_handed}
use proofs.Entering.{none_came, none_handed, now_here, same_but_queue, same_ends}
use proofs.Next.{at_wire, Keeps, says}
use proofs.Puts.{changed_is, found, IsFound, Kept, Put}
use proofs.Sharing.{other_twice}
use proofs.Steady.{ends_kept, good, IsGood, stays}
use proofs.Turning.{queue_is}
use Rattle.policy_audit.specs.declared.event.Event.TheVariants as event
use Rattle.policy_audit.specs.declared.reply.Reply.TheVariants as reply
use Rattle.policy_audit.specs.declared.rule.Rule.TheVariants as rule
use specs.declared.side.Side.TheVariants as side
use specs.declared.world_step.WorldStep.TheVariants as step

-- ---- one queue has changed

not_other : (at : Side) → other at ≡ at → ⊥
not_other side.Dialler q = cc
not_other side.Acceptor q = cc

-- the entry is of link l alone, which is the end of wire x at a side
module _ {w : Nodes} (m : Makes w) (n : ℕ) (x : Wire) (stands : slice_get w.wires n ≡ Some x)
    (s : Side) (l : ℕ) (node : node_at s x ≡ m.i) (link : link_at s x ≡ Some l)
    (opens : (k : ℕ) → is_opened_by k m.e ≡ false)
    (came_here : (k : ℕ) (o : Option ℕ) → (k ≡ m.i → o ≡ Some l → ⊥) → new_came m.e m.i k o ≡ [])
    (handed_here : (k : ℕ) (o : Option ℕ) → (k ≡ m.i → o ≡ Some l → ⊥)
    → new_handed m.e m.i k o ≡ []) where
  -- an end with this link is of this wire, and at this side
  only_here : (k : ℕ) (y : Wire) → slice_get w.wires k ≡ Some y → (t : Side) → node_at t y ≡ m.i
      → link_at t y ≡ Some l → (k ≡ n) × (t ≡ s)
  only_here k y q t at its = m.sound.once k n y x t s m.i l q stands
      (record { node = at; link = its }) (record { node = node; link = link })

  not_there : node_at (other s) x ≡ m.i → link_at (other s) x ≡ Some l → ⊥
  not_there at its = not_other s (only_here n x stands (other s) at its).1

  -- the queue towards a side has changed, and nothing came or was handed out towards the other
  queued : (at : Side) (f : List OutFrame → List OutFrame) → Fits m x at (f (under_way at x))
      → comes m x (other at) ≡ [] → goes m x (other at) ≡ []
      → IsWorld (world (after m) (changed n (changed_queue at f) w.wires))
  queued at f here none_in none_out =
      let y = changed_queue at f x in
      let same = same_but_queue at f x in
      subst (λ ys. IsWorld (world (after m) ys))
      (sym (changed_is w.wires n x (changed_queue at f) stands))
      (stays m 0 at (slice_set w.wires n y) (λ k z q. by k z (found w.wires n y x stands k z q))
      (ends_kept w.wires n x y stands (λ t j k it. record {
        node = same.node t ∙ it.node;
        link = same.link t ∙ it.link;
      }))
      (λ k q. lie (sym q ∙ opens k)))
    where
      fits : (s to : Side) → Fits m x s (f (under_way s x)) → comes m x (other s) ≡ []
          → goes m x (other s) ≡ [] → Fits m x to (under_way to (changed_queue s f x))
      fits side.Dialler side.Acceptor here none_in none_out =
          fits_as_before m x side.Acceptor none_in none_out
      fits side.Acceptor side.Dialler here none_in none_out =
          fits_as_before m x side.Dialler none_in none_out
      fits s to here none_in none_out = here

      by : (k : ℕ) (z : Wire) → IsFound w.wires n (changed_queue at f x) k z → IsGood m 0 at k z
      by k z (Put is its) = rw (is, ← its) (good m 0 at n x (changed_queue at f x) stands
          (same_but_queue at f x) (λ to. carries_on m n x (changed_queue at f x) stands
          (same_but_queue at f x) to (fits at to here none_in none_out)))
      by k z (Kept apart its) = good m 0 at k z z its (same_ends z)
          (λ to. carries_as_before m k z its to
          (came_here (node_at to z) (link_at to z) (λ at link. apart (only_here k z its to at
          link).0))
          (handed_here (node_at (other to) z) (link_at (other to) z)
          (λ at link. apart (only_here k z its (other to) at link).0)))

  -- towards this side
  pub queued_here : (f : List OutFrame → List OutFrame) → Fits m x s (f (under_way s x))
      → goes m x (other s) ≡ [] → IsWorld (world (after m) (changed n (changed_queue s f) w.wires))
  queued_here f fits none_out =
      queued s f fits (came_here (node_at (other s) x) (link_at (other s) x) not_there) none_out

  pub queued_there : (f : List OutFrame → List OutFrame)
      → Fits m x (other s) (f (under_way (other s) x)) → comes m x (other (other s)) ≡ []
      → IsWorld (world (after m) (changed n (changed_queue (other s) f) w.wires))
  queued_there f fits none_in = queued (other s) f fits none_in (rw (other_twice s)
      (handed_here (node_at (other s) x) (link_at (other s) x) not_there))

-- ---- a link that is open behind its loss is kept, and the loss was refused by another rule

module _ (h : History) (seat l : ℕ) where
  -- a link that is kept isn't refused as one that isn't
  by_kept : (r : Rule) (full kept : Bool) → kept ≡ true
      → Refused r ≡ cond full (Refused rule.EntriesFull) (judged h seat (event.Lost l)
      (cond (not kept) (Some rule.NoSuchLink) None)) → is_gone (says (Refused r)) ≡ false
  by_kept r full kept k q = grind arith

  by_verdict : (v : Verdict) → v ≡ verdict h seat (event.Lost l)
      → (not (ends l h.entries v (event.Lost l)) && is_open l h.entries) ≡ true
      → is_gone (says v) ≡ false
  by_verdict (Accepted r) q opens = grind (arith, eq-eqb l l refl)
  by_verdict (Refused r) q opens = grind (arith, by_kept r (is_full h) (is_kept h l))

not_gone : (h : History) (e : Entry) (l : ℕ) → e.event ≡ event.Lost l → IsNext h e
    → is_opened_by l e ≡ false → is_open l (e ∷ h.entries) ≡ true → is_gone (says e.verdict) ≡ false
not_gone h e l is next other opens =
    by_verdict h e.seat l e.verdict (next.verdict ∙ ap (verdict h e.seat) is) (grind arith)

-- what the verdict on a Take hands out joins the queue
joined : (l : ℕ) (v : Verdict) (q : List OutFrame)
    → joined_by (says v) q ≡ q ++ handed l (event.Take l) v
joined l (Accepted (reply.Out frames)) q = ap (λ b. q ++ cond b frames []) (sym (eq-eqb l l refl))
joined l (Accepted r) q = refl
joined l (Refused r) q = sym (append-nil q)

-- ---- the steps

module _ (w : Nodes) (sound : IsWorld w) (n : ℕ) (at : Side) (seat : ℕ) where
  module _ (x : Wire) (l : ℕ) (stands : slice_get w.wires n ≡ Some x) (link : link_at at x ≡ Some l)
      (h : History) (e : Entry) (here : slice_get w.nodes (node_at at x) ≡ Some h)
      (next : IsNext h e) where
    abbrev makes_here : IsWritten e.event → IsLate h.entries e.event → Makes w
    makes_here written late = makes w sound (node_at at x) h e here next written late

    module _ (is : e.event ≡ event.Take l) where
      abbrev taking : Makes w
      taking = makes_here (subst IsWritten (sym is) tt) (subst (IsLate h.entries) (sym is) tt)

      none_in : (k : ℕ) (o : Option ℕ) → new_came e (node_at at x) k o ≡ []
      none_in k o = none_came taking (λ j. ap (came j) is) k o

      out_here : new_handed e (node_at at x) (node_at at x) (link_at at x) ≡ bodies
          (handed l (event.Take l) e.verdict)
      out_here = rw (link, eq-eqb (node_at at x) (node_at at x) refl, is)

      joins : Fits taking x (other at) (joined_by (says e.verdict) (under_way (other at) x))
      joins more =
          rw (none_in (node_at (other at) x) (link_at (other at) x), other_twice at) (cc (
            joined l e.verdict (under_way (other at) x),
            map-append (λ f. OutFrame.body f) (under_way (other at) x)
                (handed l (event.Take l) e.verdict),
            out_here,
          ))

      hand_kept : IsWorld (world (after taking)
          (wires_after (step.Hand n at seat) (says e.verdict) w.wires))
      hand_kept = queued_there taking n x stands at l refl link
          (opens_none e (event.Take l) is refl) (λ k o apart. none_in k o)
          (handed_once taking l is) (joined_by (says e.verdict)) joins
          (none_in (node_at (other (other at)) x) (link_at (other (other at)) x))

    -- what is under way to a link that is open afterwards is still so
    module _ (is : e.event ≡ event.Lost l) where
      apart : IsApart e.event
      apart = apart_as (event.Lost l) is refl

      abbrev cutting : Makes w
      cutting = makes_here (subst IsWritten (sym is) tt) (apart.late h.entries)

      opens : (k : ℕ) → is_opened_by k e ≡ false
      opens = opens_none e (event.Lost l) is refl

      nothing_in : (k : ℕ) (o : Option ℕ) → new_came e (node_at at x) k o ≡ []
      nothing_in k o = none_came cutting apart.none_in k o

      nothing_out : (k : ℕ) (o : Option ℕ) → new_handed e (node_at at x) k o ≡ []
      nothing_out k o = none_handed cutting (λ j. apart.none_out j e.verdict) k o

      open_now : gets cutting x at ≡ true → is_open l (e ∷ h.entries) ≡ true
      open_now more = cc (now_here cutting, link, more)

      drops : Fits cutting x at (cut_by (says e.verdict) (under_way at x))
      drops more = rw (not_gone h e l is next (opens l) (open_now more))
          (fits_as_before cutting x at (nothing_in (node_at at x) (link_at at x))
          (nothing_out (node_at (other at) x) (link_at (other at) x)) more)

      cut_kept : IsWorld (world (after cutting)
          (wires_after (step.Cut n at seat) (says e.verdict) w.wires))
      cut_kept = queued_here cutting n x stands at l refl link opens
          (λ k o apart. nothing_in k o) (λ k o apart. nothing_out k o)
          (cut_by (says e.verdict)) drops
          (nothing_out (node_at (other (other at)) x) (link_at (other (other at)) x))

    -- the oldest frame has left its queue
    module _ (f : OutFrame) (fs : List OutFrame) (queue : under_way at x ≡ f ∷ fs)
        (is : e.event ≡ event.Frame l f.body) (goes : leaves (says e.verdict) ≡ true) where
      -- the link was opened before
      late : IsLate h.entries e.event
      late = subst (IsLate h.entries) (sym is)
          (ends_low w sound n x stands (node_at at x) h here at l link refl)

      abbrev delivering : Makes w
      delivering = makes_here (subst IsWritten (sym is) tt) late

      none_out : (k : ℕ) (o : Option ℕ) → new_handed e (node_at at x) k o ≡ []
      none_out k o = none_handed delivering (λ j. ap (λ v. handed j v e.verdict) is) k o

      came_here : new_came e (node_at at x) (node_at at x) (link_at at x) ≡ f.body ∷ []
      came_here = rw (link, eq-eqb (node_at at x) (node_at at x) refl, is, eq-eqb l l refl)

      rest : left_by (says e.verdict) (under_way at x) ≡ fs
      rest = rw (goes, queue)

      leaves_it : Fits delivering x at (left_by (says e.verdict) (under_way at x))
      leaves_it more = rw
          (came_here, rest, queue, none_out (node_at (other at) x) (link_at (other at) x))
          (sym (append-nil (bodies (f ∷ fs))))

      frame_kept : IsWorld (world (after delivering)
          (wires_after (step.Deliver n at seat) (says e.verdict) w.wires))
      frame_kept = queued_here delivering n x stands at l refl link
          (opens_none e (event.Frame l f.body) is refl) (came_once delivering l f.body is)
          (λ k o apart. none_out k o) (left_by (says e.verdict)) leaves_it
          (none_out (node_at (other (other at)) x) (link_at (other (other at)) x))

  pub hands : Keeps w (step.Hand n at seat) (turn_of w (step.Hand n at seat))
  hands = at_wire w (step.Hand n at seat) n at (λ e. Asks e.node seat (event.Take e.link))
      (λ x l stands link h e here is next goes. hand_kept x l stands link h e here next is)

  pub cuts : Keeps w (step.Cut n at seat) (turn_of w (step.Cut n at seat))
  cuts = at_wire w (step.Cut n at seat) n at (λ e. Asks e.node seat (event.Lost e.link))
      (λ x l stands link h e here is next goes. cut_kept x l stands link h e here next is)

  pub delivers : Keeps w (step.Deliver n at seat) (turn_of w (step.Deliver n at seat))
  delivers = at_wire w (step.Deliver n at seat) n at (asks_frame seat (queue_at w n at)) (λ x l
      stands link. by x l stands link (queue_at w n at) (queue_is w n at seat x stands))
    where
      by : (x : Wire) (l : ℕ) → slice_get w.wires n ≡ Some x → link_at at x ≡ Some l
          → (q : List OutFrame) → q ≡ under_way at x → Keeps w (step.Deliver n at seat) (asks_frame
          seat q (record { node = node_at at x; link = l }))
      by x l stands link [] queue = tt
      by x l stands link (f ∷ fs) queue = λ h e here is next goes.
          frame_kept x l stands link h e here next f fs (sym queue) is goes
