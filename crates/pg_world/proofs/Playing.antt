-- A list of steps, played: each step has an answer, and where the first world is one, so is the
-- last.
use Rattle.pg_world.specs
use Rattle.pg_world.proofs
use proofs.Words.{Accepted, after, AllByRecursion, answer_of, arith, Asks, Comes, Err, Event}
use proofs.Words.{History, is_some, IsWorld, IsWrittenStep, lie, List, Nodes, None, Option, refl}
use proofs.Words.{Refuses, Result, slice_get, slice_set, Some, subst, sym, true, Turn, turn_of}
use proofs.Words.{Turns, Verdict, verdict, wires_after, world, WorldFault, WorldReply, WorldStep, ℕ}
use proofs.Words.{[], ◌∷◌, ◌≡◌}
use proofs.Next.{says}
use proofs.Staying.{stays}
use Rattle.node_core.specs.Step.{IsStepped}
use specs.Steps.{IsWorldStep}

-- ---- one step

-- a world after the node's answer
abbrev pub asked : Nodes → WorldStep → ℕ → ℕ → Event → Option History → Nodes
asked w t i seat e (Some h) = world (slice_set w.nodes i (after h seat e))
    (wires_after t (says (verdict h seat e)) w.wires)
asked w t i seat e None = w

-- what a step makes that comes to this
abbrev pub turned : Nodes → WorldStep → Turn → Nodes
turned w t (Refuses f) = w
turned w t (Asks i seat e) = asked w t i seat e (slice_get w.nodes i)

-- it is answered
pub record IsPlayed (w : Nodes) (t : WorldStep) (v : Nodes) : Type 0 where
  pub result : Result WorldReply WorldFault
  pub step : IsWorldStep w t v result

stepped : (h : History) (seat : ℕ) (e : Event)
    → IsStepped h seat e (after h seat e) (says (verdict h seat e))
unfolding IsStepped
stepped h seat e = by (verdict h seat e) refl
  where
    by : (v : Verdict) → verdict h seat e ≡ v → IsStepped h seat e (after h seat e) (says v)
    by (Accepted r) q = (q, refl)
    by x q = (q, refl)

module _ (w : Nodes) (t : WorldStep) where
  -- a node that is asked is there
  stands : (i seat : ℕ) (e : Event) → turn_of w t ≡ Asks i seat e
      → is_some (slice_get w.nodes i) ≡ true
  stands i seat e q = grind arith

  pub played : IsPlayed w t (turned w t (turn_of w t))
  unfolding IsWorldStep
  played = by (turn_of w t) refl
    where
      asks : (i seat : ℕ) (e : Event) → turn_of w t ≡ Asks i seat e → (o : Option History)
          → slice_get w.nodes i ≡ o → is_some o ≡ true → IsPlayed w t (asked w t i seat e o)
      asks i seat e q None stands there = lie (sym there)
      asks i seat e q (Some h) stands there = record {
        result = answer_of t (says (verdict h seat e)) w.wires;
        step = subst (λ u. Turns w t u (asked w t i seat e (Some h))
            (answer_of t (says (verdict h seat e)) w.wires)) (sym q) (record {
              before = h;
              after = after h seat e;
              answer = says (verdict h seat e);
              stands = stands;
              stepped = stepped h seat e;
              nodes = refl;
              wires = refl;
              answered = refl;
            });
      }

      by : (u : Turn) → turn_of w t ≡ u → IsPlayed w t (turned w t u)
      by (Refuses f) q =
          record { result = Err f; step = subst (λ u. Turns w t u w (Err f)) (sym q) (refl, refl) }
      by (Asks i seat e) q = asks i seat e q (slice_get w.nodes i) refl (stands i seat e q)

-- ---- all of them

-- the world after a list of steps
abbrev pub play : Nodes → List WorldStep → Nodes
play w [] = w
play w (t ∷ ts) = play (turned w t (turn_of w t)) ts

pub plays : (w : Nodes) (ts : List WorldStep) → Comes w ts (play w ts)
plays w [] = refl
plays w (t ∷ ts) = (let it = played w t in
    (turned w t (turn_of w t), it.result, it.step, plays (turned w t (turn_of w t)) ts))

pub play_sound : (w : Nodes) (ts : List WorldStep) → IsWorld w → AllByRecursion IsWrittenStep ts
    → IsWorld (play w ts)
play_sound w [] sound written = sound
play_sound w (t ∷ ts) sound written = (let it = played w t in play_sound (turned w t (turn_of w t))
    ts (stays w (turned w t (turn_of w t)) t it.result sound written.0 it.step) written.1)
