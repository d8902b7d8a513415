-- Both nodes of each wire are there, whatever steps were made.
use Rattle.pg_world.specs
use Rattle.pg_world.proofs
use proofs.Words.{ap, append-nil, arith, Asks, changed, changed_queue, CoreFault, cut_by, dialled}
use proofs.Words.{end_at, Err, Event, HaveNodes, History, joined_by, left_by, length, length-set}
use proofs.Words.{link_opened, List, new_wire, node_at, Nodes, None, opener_at, Option, other, refl}
use proofs.Words.{Refuses, Reply, Result, Side, slice_get, slice_get-get_or, slice_get_past}
use proofs.Words.{slice_set, Some, subst, sym, Turn, turn_of, Turns, Wire, wires_after, with_link}
use proofs.Words.{world, WorldFault, WorldReply, WorldStep, ℕ, [], ◌++◌, ◌<◌, ◌∙◌, ◌∷◌, ◌≡◌, ◌≢◌}
use proofs.Entering.{same_but_queue}
use proofs.Puts.{found, found_last, IsFound, Kept, Put}
use specs.Steps.{IsWorldStep}
use specs.declared.side.Side.TheVariants as side
use specs.declared.world_step.WorldStep.TheVariants as step
use specs.declared.fault.WorldFault.TheVariants as fault

-- ---- each wire of a list

-- the nodes of each wire are below n
abbrev Each : ℕ → List Wire → Type 0
Each n xs = (m : ℕ) (x : Wire) → slice_get xs m ≡ Some x → (x.from < n) × (x.to < n)

module _ (n : ℕ) (xs : List Wire) (all : Each n xs) where
  join : (i j : ℕ) → i < n → j < n → (l : Option ℕ) → Each n (xs ++ new_wire i j l)
  join i j here there None m x q = all m x (rw append-nil at q)
  join i j here there (Some l) m x q = by (found_last xs (dialled i j l) m x q)
    where
      by : IsFound xs (length xs) (dialled i j l) m x → (x.from < n) × (x.to < n)
      by (Kept apart stands) = all m x stands
      by (Put last is) = subst (λ v. (v.from < n) × (v.to < n)) is (here, there)

  change : (m : ℕ) (f : Wire → Wire) → ((x : Wire) (at : Side) → node_at at (f x) ≡ node_at at x)
      → Each n (changed m f xs)
  change m f same = by (slice_get xs m) refl
    where
      by : (o : Option Wire) → slice_get xs m ≡ o
          → Each n (elim o as (λ _. List Wire) [ Some x ↦ slice_set xs m (f x) | None ↦ xs ])
      by None e k y q = all k y q
      by (Some x) e k y q = from (found xs m (f x) x e k y q)
        where
          from : IsFound xs m (f x) k y → (y.from < n) × (y.to < n)
          from (Kept apart stands) = all k y stands
          from (Put there is) = subst (λ v. (v.from < n) × (v.to < n)) is
              (rw (same x side.Dialler) (all m x e).0, rw (same x side.Acceptor) (all m x e).1)

-- ---- steps

pub no_wires : (hs : List History) → HaveNodes (world hs [])
no_wires hs n x e = cc

module _ (old : Nodes) (all : HaveNodes old) where
  -- the wires after an answer, over as many nodes
  each : (t : WorldStep) (i seat : ℕ) (e : Event) → turn_of old t ≡ Asks i seat e
      → (a : Result Reply CoreFault) → Each (length old.nodes) (wires_after t a old.wires)
  each (step.Dial i j seat c) k s e q a = join (length old.nodes) old.wires all i j
      (grind (arith, slice_get_past old.nodes i)) (grind (arith, slice_get_past old.nodes j))
      (link_opened a)
  each (step.Accept m seat c) k s e q a = change (length old.nodes) old.wires all m
      (with_link (link_opened a)) (λ x at. grind arith)
  each (step.Hand m at seat) k s e q a = change (length old.nodes) old.wires all m
      (changed_queue (other at) (joined_by a))
      (λ x. (same_but_queue (other at) (joined_by a) x).node)
  each (step.Deliver m at seat) k s e q a = change (length old.nodes) old.wires all m
      (changed_queue at (left_by a)) (λ x. (same_but_queue at (left_by a) x).node)
  each (step.Cut m at seat) k s e q a = change (length old.nodes) old.wires all m
      (changed_queue at (cut_by a)) (λ x. (same_but_queue at (cut_by a) x).node)
  each t k s e q a = all

pub stays_wired : (old new : Nodes) (t : WorldStep) (r : Result WorldReply WorldFault)
    → HaveNodes old → IsWorldStep old t new r → HaveNodes new
unfolding IsWorldStep
stays_wired old new t r all s = by (turn_of old t) refl s
  where
    by : (u : Turn) → turn_of old t ≡ u → Turns old t u new r → HaveNodes new
    by (Refuses f) q s n x stands = subst HaveNodes (sym s.1) all n x stands
    by (Asks i seat e) q s n x stands =
        let size : length new.nodes ≡ length old.nodes =
        ap length s.nodes ∙ length-set old.nodes i s.after in
        subst (λ k. (x.from < k) × (x.to < k)) (sym size) (each old all t i seat e q s.answer n x
        (sym (ap (λ ys. slice_get ys n) s.wires) ∙ stands))

-- ---- where a step on a wire happens

there : {A : Type 0} (xs : List A) (i : ℕ) → i < length xs → slice_get xs i ≢ None
there [] i below e = omega arith
there (x ∷ xs) i below e = let stands = sym (slice_get-get_or (x ∷ xs) i x below) ∙ e in cc

module _ (w : Nodes) (n : ℕ) where
  node_there : HaveNodes w → (at : Side) (x : Wire) → slice_get w.wires n ≡ Some x
      → slice_get w.nodes (node_at at x) ≢ None
  node_there all side.Dialler x e = there w.nodes x.from (all n x e).0
  node_there all side.Acceptor x e = there w.nodes x.to (all n x e).1

  pub end_there : (at : Side) → HaveNodes w → end_at w n at ≢ Err fault.NoNode
  end_there at all q = grind (arith, node_there all at)

  pub opener_there : HaveNodes w → opener_at w n ≢ Err fault.NoNode
  opener_there all q = grind (arith, node_there all side.Acceptor)
