-- What a refused step leaves as it was.
use Rattle.pg_world.specs
use Rattle.pg_world.proofs
use proofs.Words.{answer_of, ap, append-nil, arith, Asks, changed, changed_queue, CoreFault, cut_by}
use proofs.Words.{Err, Event, get_or_from_slice_get, History, IsTrue, keeps_wires, left_by, List}
use proofs.Words.{Nodes, None, Ok, Option, other, OutFrame, refl, Refuses, Reply, Result}
use proofs.Words.{set-get_or, Side, slice_get, slice_set, Some, subst, sym, Turn, turn_of, Turns}
use proofs.Words.{under_way, Wire, wires_after, with_queue, WorldFault, WorldStep, ℕ, ◌∙◌, ◌≡◌}
use Rattle.node_core.specs.Step.{IsStepped}
use specs.Steps.{IsWorldStep}
use Rattle.node_core.specs.declared.fault.CoreFault.TheVariants as core_fault
use specs.declared.side.Side.TheVariants as side
use specs.declared.world_step.WorldStep.TheVariants as step
use specs.declared.fault.WorldFault.TheVariants as fault

-- ---- lists

-- an element put where it stands
pub same_element : {A : Type 0} (xs : List A) (n : ℕ) (x : A) → slice_get xs n ≡ Some x
    → slice_set xs n x ≡ xs
same_element xs n x e = ap (slice_set xs n) (sym (get_or_from_slice_get xs n x x e))
    ∙ set-get_or xs n x

-- a wire that stays
pub same_wire : (xs : List Wire) (n : ℕ) (f : Wire → Wire) → ((x : Wire) → f x ≡ x)
    → changed n f xs ≡ xs
same_wire xs n f stays = by (slice_get xs n) refl
  where
    by : (o : Option Wire) → slice_get xs n ≡ o
        → elim o as (λ _. List Wire) [ Some x ↦ slice_set xs n (f x) | None ↦ xs ] ≡ xs
    by None e = refl
    by (Some x) e = ap (slice_set xs n) (stays x) ∙ same_element xs n x e

-- a queue that stays
same_queue : (at : Side) (f : List OutFrame → List OutFrame) (x : Wire)
    → f (under_way at x) ≡ under_way at x → changed_queue at f x ≡ x
same_queue side.Dialler f x same = ap (λ q. with_queue side.Dialler q x) same
same_queue side.Acceptor f x same = ap (λ q. with_queue side.Acceptor q x) same

-- ---- steps

-- a fault comes from the node
fault_is : (t : WorldStep) (a : Result Reply CoreFault) (xs : List Wire) (f : WorldFault)
    → Err f ≡ answer_of t a xs → (g : CoreFault) × (a ≡ Err g) × (f ≡ fault.Core g)
fault_is t (Ok r) xs f e = absurd (no_reply t e)
  where
    no_reply : (t : WorldStep) → Err f ≡ answer_of t (Ok r) xs → ⊥
    no_reply (step.Call i seat ev) e = cc
    no_reply x e = cc
fault_is t (Err g) xs f e = (g, refl, its t e)
  where
    its : (t : WorldStep) → Err f ≡ answer_of t (Err g) xs → f ≡ fault.Core g
    its (step.Call i seat ev) e = cc
    its x e = cc

-- the wires after such a fault
pub wires_stay : (t : WorldStep) (g : CoreFault) (xs : List Wire)
    → IsTrue (keeps_wires t (fault.Core g)) → wires_after t (Err g) xs ≡ xs
wires_stay (step.Dial i j seat c) g xs k = append-nil xs
wires_stay (step.Accept n seat c) g xs k = same_wire xs n (λ x. x) (λ x. refl)
wires_stay (step.Hand n at seat) g xs k = same_wire xs n (changed_queue (other at) (λ q. q))
    (λ x. same_queue (other at) (λ q. q) x refl)
wires_stay (step.Deliver n at seat) g xs k = same_wire xs n (changed_queue at (left_by (Err g)))
    (λ x. same_queue at (left_by (Err g)) x (stays g k (under_way at x)))
  where
    stays : (g : CoreFault) → IsTrue (keeps_wires (step.Deliver n at seat) (fault.Core g))
        → (q : List OutFrame) → left_by (Err g) q ≡ q
    stays g k q = grind arith
wires_stay (step.Cut n at seat) g xs k = same_wire xs n (changed_queue at (cut_by (Err g)))
    (λ x. same_queue at (cut_by (Err g)) x (stays g k (under_way at x)))
  where
    stays : (g : CoreFault) → IsTrue (keeps_wires (step.Cut n at seat) (fault.Core g))
        → (q : List OutFrame) → cut_by (Err g) q ≡ q
    stays g k q = grind arith
wires_stay x g xs k = refl

-- a node that wants memory stays
node_stays : (before after : History) (seat : ℕ) (e : Event)
    → IsStepped before seat e after (Err core_fault.OutOfMemory) → after ≡ before
unfolding IsStepped
node_stays before after seat e s = s.1

module _ (old new : Nodes) (t : WorldStep) where
  pub wires_kept : (f : WorldFault) → IsWorldStep old t new (Err f) → IsTrue (keeps_wires t f)
      → new.wires ≡ old.wires
  unfolding IsWorldStep
  wires_kept f s k = by (turn_of old t) s
    where
      by : (u : Turn) → Turns old t u new (Err f) → new.wires ≡ old.wires
      by (Refuses g) s = ap (λ w. w.wires) s.1
      by (Asks i seat e) s =
          let it = fault_is t s.answer old.wires f s.answered in
          s.wires ∙ ap (λ a. wires_after t a old.wires) it.1 ∙ wires_stay t it.0 old.wires
          (subst (λ v. IsTrue (keeps_wires t v)) it.2 k)

  pub memory_same : IsWorldStep old t new (Err (fault.Core core_fault.OutOfMemory)) → new ≡ old
  unfolding IsWorldStep
  memory_same s = by (turn_of old t) s
    where
      by : (u : Turn) → Turns old t u new (Err (fault.Core core_fault.OutOfMemory)) → new ≡ old
      by (Refuses g) s = s.1
      by (Asks i seat e) s =
          let it = fault_is t s.answer old.wires (fault.Core core_fault.OutOfMemory) s.answered in
          let is : s.answer ≡ Err core_fault.OutOfMemory = cc (it.1, it.2) in
          let stays = node_stays s.before s.after seat e
          (subst (λ a. IsStepped s.before seat e s.after a) is s.stepped) in
          let nodes : new.nodes ≡ old.nodes = s.nodes ∙ ap (slice_set old.nodes i) stays
          ∙ same_element old.nodes i s.before s.stands in
          let wires : new.wires ≡ old.wires = s.wires ∙ ap (λ a. wires_after t a old.wires) is
          ∙ wires_stay t core_fault.OutOfMemory old.wires (grind arith) in
          λ k. record { nodes = nodes k; wires = wires k }
