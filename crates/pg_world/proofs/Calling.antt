-- A call and a restart leave the wires, and keep the invariant.
use Rattle.pg_world.specs
use Rattle.pg_world.proofs
use proofs.Words.{arith, Asks, asks, Bool, came, cond, Entry, Event, false, handed, History}
use proofs.Words.{is_accepted, is_opened_by, is_some, is_wrong, IsLate, IsWorld, IsWritten}
use proofs.Words.{lie, List, Nodes, None, Option, refl, Refuses, slice_get, Some}
use proofs.Words.{start_of, subst, sym, true, Turn, turn_of, Verdict, world, WorldStep, ℕ, []}
use proofs.Words.{◌≡◌}
use proofs.Entering.{after, Makes, makes}
use proofs.Next.{Keeps, KeptBy}
use proofs.Steady.{quiet}
use Rattle.policy_audit.specs.declared.event.Event.TheVariants as event
use specs.declared.world_step.WorldStep.TheVariants as step
use specs.declared.fault.WorldFault.TheVariants as fault

-- an event by which no frame comes and none is handed out
pub record IsApart (e : Event) : Type 0 where
  pub late : (es : List Entry) → IsLate es e
  pub none_in : (l : ℕ) → came l e ≡ []
  pub none_out : (l : ℕ) (v : Verdict) → handed l e v ≡ []

abbrev pub moves_frames : Event → Bool
moves_frames (event.Frame l body) = true
moves_frames (event.Take l) = true
moves_frames e = false

pub apart_as : {x : Event} (e : Event) → x ≡ e → moves_frames e ≡ false → IsApart x
apart_as e is still = subst IsApart (sym is) (by e still)
  where
    by : (e : Event) → moves_frames e ≡ false → IsApart e
    by (event.Frame l body) q = lie q
    by (event.Take l) q = lie q
    by e q = record { late = λ es. tt; none_in = λ l. refl; none_out = λ l v. refl }

-- an event that starts no link opens none
pub opens_none : (x : Entry) (e : Event) → x.event ≡ e → is_some (start_of e) ≡ false → (l : ℕ)
    → is_opened_by l x ≡ false
opens_none x e is none l = grind arith

-- nor does a refused one
pub refused_none : (x : Entry) → is_accepted x.verdict ≡ false → (l : ℕ) → is_opened_by l x ≡ false
refused_none x refused l = grind arith

-- an entry that opens no link, of an event that is apart, leaves the wires
pub apart_kept : {w : Nodes} (m : Makes w) → IsApart m.e.event
    → ((l : ℕ) → is_opened_by l m.e ≡ false) → IsWorld (world (after m) w.wires)
apart_kept m apart opens = quiet m opens apart.none_in (λ l. apart.none_out l m.e.verdict)

module _ (w : Nodes) (sound : IsWorld w) (i seat : ℕ) where
  -- the node answers, if it is there
  pub asks_kept : (t : WorldStep) (e : Event) → KeptBy w t i e → Keeps w t (asks w.nodes i seat e)
  asks_kept t e kept = by (slice_get w.nodes i)
    where
      by : (o : Option History) → Keeps w t (elim o as (λ _. Turn)
          [ Some h ↦ Asks i seat e | None ↦ Refuses fault.NoNode ])
      by (Some h) = kept
      by None = tt

  pub calls : (e : Event) → IsWritten e
      → Keeps w (step.Call i seat e) (turn_of w (step.Call i seat e))
  calls e written = by (is_wrong e) refl
    where
      kept : is_wrong e ≡ false → KeptBy w (step.Call i seat e) i e
      kept right h x here is next goes =
          let apart = apart_as e is (grind arith) in
          apart_kept (makes w sound i h x here next (subst IsWritten (sym is) written)
          (apart.late h.entries)) apart (opens_none x e is (grind arith))

      by : (b : Bool) → is_wrong e ≡ b → Keeps w (step.Call i seat e) (cond b
          (Refuses fault.WrongEvent) (asks w.nodes i seat e))
      by true wrong = tt
      by false right = asks_kept (step.Call i seat e) e (kept right)

  pub restarts : Keeps w (step.Restart i seat) (turn_of w (step.Restart i seat))
  restarts = asks_kept (step.Restart i seat) event.Restart (λ h x here is next goes.
      let apart = apart_as event.Restart is refl in
      apart_kept (makes w sound i h x here next (subst IsWritten (sym is) tt)
      (apart.late h.entries)) apart (opens_none x event.Restart is refl))
