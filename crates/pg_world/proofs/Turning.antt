-- A step of a world from what it comes to, and from where it happens.
use Rattle.pg_world.specs
use Rattle.pg_world.proofs
use proofs.Words.{answer_of, Answers, ap, arith, Asks, asks, asks_frame, Bool}
use proofs.Words.{changed, CoreFault, End, end_at, Err, Event, false, get_or, History}
use proofs.Words.{IsStepped, length, List, Nodes, None, Ok, oldest, OutFrame}
use proofs.Words.{queue_at, refl, Refuses, Reply, Result, set-get_or, Side, slice_get}
use proofs.Words.{slice_get-get_or, slice_get_past, slice_set, Some, subst, sym, true, Turn}
use proofs.Words.{turn_of, Turns, under_way, Wire, wires_after, world, WorldFault, WorldReply}
use proofs.Words.{WorldStep, ℕ, [], ◌<◌, ◌∙◌, ◌∷◌, ◌≡◌, ◌≢◌, ◌≤◌}
use proofs.Puts.{changed_is}
use specs.Steps.{IsWorldStep}
use Rattle.policy_audit.specs.declared.event.Event.TheVariants as event
use specs.declared.world_step.WorldStep.TheVariants as step
use specs.declared.fault.WorldFault.TheVariants as fault

-- ---- what it comes to

pub refused : (w : Nodes) (t : WorldStep) {f : WorldFault} → turn_of w t ≡ Refuses f
    → IsWorldStep w t w (Err f)
unfolding IsWorldStep
refused w t {f} e = subst (λ u. Turns w t u w (Err f)) (sym e) (refl, refl)

module _ (w : Nodes) (t : WorldStep) {i seat : ℕ} {e : Event} where
  -- the node's answer has this effect on the wires
  pub turned : (before after : History) (xs : List Wire) (r : Result WorldReply WorldFault)
      → turn_of w t ≡ Asks i seat e → slice_get w.nodes i ≡ Some before
      → Answers before seat e after (λ a. (xs ≡ wires_after t a w.wires)
      × (r ≡ answer_of t a w.wires)) → IsWorldStep w t (world (slice_set w.nodes i after) xs) r
  unfolding IsWorldStep
  turned before after xs r q stands a =
      subst (λ u. Turns w t u (world (slice_set w.nodes i after) xs) r) (sym q) (record {
        before = before;
        after = after;
        answer = a.answer;
        stands = stands;
        stepped = a.stepped;
        nodes = refl;
        wires = a.effect.0;
        answered = a.effect.1;
      })

  -- the node is asked, and nothing changes
  pub unanswered : (k : History) (f : CoreFault) → turn_of w t ≡ Asks i seat e → i < length w.nodes
      → IsStepped (get_or w.nodes i k) seat e (get_or w.nodes i k) (Err f)
      → w.wires ≡ wires_after t (Err f) w.wires
      → Err (fault.Core f) ≡ answer_of t (Err f) w.wires → IsWorldStep w t w (Err (fault.Core f))
  unanswered k f q within stepped wires answered =
      subst (λ hs. IsWorldStep w t (world hs w.wires) (Err (fault.Core f))) (set-get_or w.nodes i k)
      (turned (get_or w.nodes i k) (get_or w.nodes i k) w.wires (Err (fault.Core f)) q
      (slice_get-get_or w.nodes i k within)
      (record { answer = Err f; stepped = stepped; effect = (wires, answered) }))

  -- a node that is there answers, and this changes a wire that is there and is said
  pub on_wire : (n : ℕ) (k after : History) (d x : Wire) (r : Result WorldReply WorldFault)
      (f : Result Reply CoreFault → Wire → Wire) (g : Result Reply CoreFault
      → Result WorldReply WorldFault) → turn_of w t ≡ Asks i seat e
      → (i < length w.nodes) × (n < length w.wires)
      → ((a : Result Reply CoreFault) → wires_after t a w.wires ≡ changed n (f a) w.wires)
      → ((a : Result Reply CoreFault) → answer_of t a w.wires ≡ g a)
      → Answers (get_or w.nodes i k) seat e after (λ a. (x ≡ f a (get_or w.wires n d)) × (r ≡ g a))
      → IsWorldStep w t (world (slice_set w.nodes i after) (slice_set w.wires n x)) r
  on_wire n k after d x r f g turn within wires answers a = turned (get_or w.nodes i k) after
      (slice_set w.wires n x) r turn (slice_get-get_or w.nodes i k within.0) (record {
        answer = a.answer;
        stepped = a.stepped;
        effect = (
          ap (slice_set w.wires n) a.effect.0 ∙ sym (changed_is w.wires n (get_or w.wires n d)
              (f a.answer) (slice_get-get_or w.wires n d within.1)) ∙ sym (wires a.answer),
          a.effect.1 ∙ sym (answers a.answer),
        );
      })

-- ---- where it happens

module _ (w : Nodes) (n : ℕ) (at : Side) (seat : ℕ) where
  -- the queue at this side
  pub queue_is : (x : Wire) → slice_get w.wires n ≡ Some x → queue_at w n at ≡ under_way at x
  queue_is x q = ap (λ o. elim o as (λ _. List OutFrame) [ Some y ↦ under_way at y | None ↦ [] ]) q

  -- nothing is under way
  pub no_frame : (e : End) (d : Wire) → n < length w.wires → Ok e ≡ end_at w n at
      → under_way at (get_or w.wires n d) ≡ []
      → turn_of w (step.Deliver n at seat) ≡ Refuses fault.NothingUnderWay
  no_frame e d within q none =
      rw (← q, queue_is (get_or w.wires n d) (slice_get-get_or w.wires n d within), none)

  -- a frame is under way
  pub a_frame : (e : End) (d : Wire) → n < length w.wires → Ok e ≡ end_at w n at
      → under_way at (get_or w.wires n d) ≢ [] → turn_of w (step.Deliver n at seat) ≡ Asks e.node
      seat (event.Frame e.link (oldest (under_way at (get_or w.wires n d))))
  a_frame e d within q some =
      rw (← q, queue_is (get_or w.wires n d) (slice_get-get_or w.wires n d within))
      (first (under_way at (get_or w.wires n d)) some)
    where
      first : (fs : List OutFrame) → fs ≢ []
          → asks_frame seat fs e ≡ Asks e.node seat (event.Frame e.link (oldest fs))
      first [] none = absurd (none refl)
      first (f ∷ fs) none = refl

-- a list without a member is empty
pub none_left : {A : Type 0} (xs : List A) (b : Bool) → (xs ≢ [] → b ≡ true) → b ≡ false → xs ≡ []
none_left [] b h e = refl
none_left (x ∷ xs) b h e = let is = h (λ q. cc) in cc

module _ (w : Nodes) (i j seat challenge : ℕ) where
  pub dials_nobody : length w.nodes ≤ j
      → turn_of w (step.Dial i j seat challenge) ≡ Refuses fault.NoNode
  dials_nobody past = grind (arith, slice_get_past w.nodes j past)

  pub nobody_dials : length w.nodes ≤ i
      → turn_of w (step.Dial i j seat challenge) ≡ Refuses fault.NoNode
  nobody_dials past = grind (arith, slice_get_past w.nodes i past)

  pub dial_turn : (d : History) → i < length w.nodes → j < length w.nodes → turn_of w (step.Dial i j
      seat challenge) ≡ Asks i seat (event.Dial (get_or w.nodes j d).opening.name challenge)
  dial_turn d here there =
      grind (arith, slice_get-get_or w.nodes j d there, slice_get-get_or w.nodes i d here)

-- a restart does what a call of it would
pub restart_is : (w v : Nodes) (i seat : ℕ) (r : Result WorldReply WorldFault)
    → Turns w (step.Call i seat event.Restart) (asks w.nodes i seat event.Restart) v r
    → IsWorldStep w (step.Restart i seat) v r
unfolding IsWorldStep
restart_is w v i seat r t = by (asks w.nodes i seat event.Restart) t
  where
    by : (u : Turn) → Turns w (step.Call i seat event.Restart) u v r
        → Turns w (step.Restart i seat) u v r
    by (Refuses f) t = t
    by (Asks j s e) t =
        record {
          before = t.before;
          after = t.after;
          answer = t.answer;
          stands = t.stands;
          stepped = t.stepped;
          nodes = t.nodes;
          wires = t.wires;
          answered = t.answered;
        }
