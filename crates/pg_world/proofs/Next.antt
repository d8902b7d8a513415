-- What a node's step makes of its history: nothing, or one entry; and so of a world.
use Rattle.pg_world.specs
use Rattle.pg_world.proofs
use proofs.Words.{Accepted, after, ap, arith, Asks, at_end, Awaited, AwaitName, awaits, Bool, Check}
use proofs.Words.{checks, CoreFault, End, end_at, Entry, entry_of, Err, Event, false, first_broken}
use proofs.Words.{frame_checks, History, is_full, IsNext, IsWorld, judged, just, leaves, link_at}
use proofs.Words.{link_end, List, next_is, node_at, Nodes, None, Ok, Option, refl, Refused, Refuses}
use proofs.Words.{Reply, Result, Side, slice_get, slice_set, Some, subst, sym, true, Turn, turn_of}
use proofs.Words.{Turns, Verdict, verdict, Wire, wire_end, wires_after, with_entry, world}
use proofs.Words.{WorldFault, WorldReply, WorldStep, ℕ, [], ◌&&◌, ◌∙◌, ◌∷◌, ◌≡◌}
use proofs.Losing.{losses_kept}
use proofs.Refusals.{same_element, wires_stay}
use Rattle.node_core.specs.Step.{IsStepped}
use specs.Steps.{IsWorldStep}
use Rattle.policy_audit.specs.declared.event.Event.TheVariants as event
use Rattle.policy_audit.specs.declared.rule.Rule.TheVariants as rule
use Rattle.node_core.specs.declared.fault.CoreFault.TheVariants as core_fault
use specs.declared.fault.WorldFault.TheVariants as fault

-- ---- one node

-- the answer that says a verdict
abbrev pub says : Verdict → Result Reply CoreFault
says (Accepted r) = Ok r
says (Refused r) = Err (core_fault.Refused r)

-- A step changes nothing where memory is wanting or the audit is full. Else it makes one entry, and
-- is answered its verdict; that is
-- never EntriesFull.
pub data Made (before : History) (e : Event) (new : History) (answer : Result Reply CoreFault) :
    Type 0 where
  Unchanged : new ≡ before → leaves answer ≡ false → Made before e new answer
  Entered : (entry : Entry) → entry.event ≡ e → IsNext before entry → new ≡ with_entry before entry
      → answer ≡ says entry.verdict → leaves (says entry.verdict) ≡ true → Made before e new answer

-- a frame that is refused by any of these rules leaves its queue
abbrev all_leave : List Check → Bool
all_leave [] = true
all_leave (c ∷ cs) = leaves (Err (core_fault.Refused c.rule)) && all_leave cs

module _ (h : History) (seat : ℕ) where
  frame_leaves : (l : ℕ) (body : List ℕ) (a : Awaited) → all_leave (frame_checks h l body a) ≡ true
  frame_leaves l body AwaitName = grind arith
  frame_leaves l body x = grind arith

  checks_leave : (e : Event) → all_leave (checks h seat e) ≡ true
  checks_leave (event.Frame l body) = grind (arith, frame_leaves l body (awaits l h.entries))
  checks_leave e = refl

  -- the verdict of an audit that isn't full names another rule than EntriesFull
  judged_leaves : (e : Event) (cs : List Check) → all_leave cs ≡ true
      → leaves (says (judged h seat e (first_broken cs))) ≡ true
  judged_leaves e [] q = refl
  judged_leaves e (c ∷ cs) q = grind (arith, judged_leaves e cs)

  module _ (e : Event) (new : History) where
    by_verdict : (a : Result Reply CoreFault) → a ≡ says (verdict h seat e) → new ≡ after h seat e
        → Made h e new a
    by_verdict a q is = by (is_full h) refl
      where
        by : (b : Bool) → is_full h ≡ b → Made h e new a
        by true full = Unchanged (grind arith) (grind arith)
        by false space = Entered (entry_of h seat e) refl (next_is h seat e space) (grind arith) q
            (grind (arith, judged_leaves e (checks h seat e) (checks_leave e)))

    pub made : (a : Result Reply CoreFault) → IsStepped h seat e new a → Made h e new a
    unfolding IsStepped
    made (Ok r) s = by_verdict (Ok r) (ap says (sym s.0)) s.1
    made (Err (core_fault.Refused r)) s = by_verdict (Err (core_fault.Refused r))
        (ap says (sym s.0)) s.1
    made (Err core_fault.OutOfMemory) s = Unchanged s.1 refl

-- ---- a world

-- a world is one after each entry with which node i may answer e, before any loss that comes with
-- it, and the wires after that answer
abbrev pub KeptBy : Nodes → WorldStep → ℕ → Event → Type 0
KeptBy w t i e = (h : History) (x : Entry) → slice_get w.nodes i ≡ Some h → x.event ≡ e → IsNext h x
    → leaves (says x.verdict) ≡ true
    → IsWorld (world (slice_set w.nodes i (just h x))
    (wires_after t (says x.verdict) w.wires))

-- an answer that leaves a frame in its queue leaves all wires
wires_same : (t : WorldStep) (a : Result Reply CoreFault) (w : Nodes) → leaves a ≡ false
    → wires_after t a w.wires ≡ w.wires
wires_same t (Err core_fault.OutOfMemory) w q = wires_stay t core_fault.OutOfMemory w.wires
    (grind arith)
wires_same t (Err (core_fault.Refused rule.EntriesFull)) w q =
    wires_stay t (core_fault.Refused rule.EntriesFull) w.wires (grind arith)
wires_same t x w q = grind arith

-- so it is after a step that comes to this
abbrev pub Keeps : Nodes → WorldStep → Turn → Type 0
Keeps w t (Refuses f) = Unit {0}
Keeps w t (Asks i seat e) = KeptBy w t i e

-- A step of a world keeps the invariant, if each entry does that it may come to.
pub stays_by : (w v : Nodes) (t : WorldStep) (r : Result WorldReply WorldFault) → IsWorld w
    → Keeps w t (turn_of w t) → IsWorldStep w t v r → IsWorld v
unfolding IsWorldStep
stays_by w v t r sound keeps s = by (turn_of w t) keeps s
  where
    by : (u : Turn) → Keeps w t u → Turns w t u v r → IsWorld v
    by (Refuses f) keeps s = subst IsWorld (sym s.1) sound
    by (Asks i seat e) keeps s = from (made s.before seat e s.after s.answer s.stepped)
      where
        from : Made s.before e s.after s.answer → IsWorld v
        from (Unchanged stays answers) =
            let nodes : v.nodes ≡ w.nodes = s.nodes ∙ ap (slice_set w.nodes i) stays
            ∙ same_element w.nodes i s.before s.stands in
            let wires : v.wires ≡ w.wires = s.wires ∙ wires_same t s.answer w answers in
            subst IsWorld (λ k. record { nodes = sym nodes k; wires = sym wires k }) sound
        from (Entered x is next stands answers goes) =
            let nodes : v.nodes ≡ slice_set w.nodes i (with_entry s.before x) = s.nodes
            ∙ ap (slice_set w.nodes i) stands in
            let wires : v.wires ≡ wires_after t (says x.verdict) w.wires = s.wires
            ∙ ap (λ a. wires_after t a w.wires) answers in
            subst IsWorld (λ k. record { nodes = sym nodes k; wires = sym wires k })
            (losses_kept w.nodes (wires_after t (says x.verdict) w.wires) i s.before x s.stands
            (keeps s.before x s.stands is next goes) next (sound.nodes i s.before s.stands).legal)

-- a step at the end of a wire, which is there
pub at_wire : (w : Nodes) (t : WorldStep) (n : ℕ) (at : Side) (f : End → Turn)
    → ((x : Wire) (l : ℕ) → slice_get w.wires n ≡ Some x → link_at at x ≡ Some l
    → Keeps w t (f (record { node = node_at at x; link = l })))
    → Keeps w t (at_end (end_at w n at) f)
at_wire w t n at f keeps = by_wire (slice_get w.wires n) refl
  where
    by_wire : (o : Option Wire) → slice_get w.wires n ≡ o
        → Keeps w t (at_end (elim o as (λ _. Result End WorldFault)
        [ Some x ↦ wire_end w.nodes at x | None ↦ Err fault.NoWire ]) f)
    by_wire None q = tt
    by_wire (Some x) q = by_node (slice_get w.nodes (node_at at x)) (link_at at x) refl
      where
        by_node : (h : Option History) (o : Option ℕ) → link_at at x ≡ o
            → Keeps w t (at_end (elim h as (λ _. Result End WorldFault)
            [ Some k ↦ link_end x at o | None ↦ Err fault.NoNode ]) f)
        by_node (Some h) (Some l) p = keeps x l q p
        by_node x o p = tt
