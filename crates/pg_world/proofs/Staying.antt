-- A world stays one with each of its steps.
use Rattle.pg_world.proofs
use proofs.Words.{IsWorld, IsWorldStep, IsWrittenStep, Nodes, Result, turn_of, WorldFault}
use proofs.Words.{WorldReply, WorldStep}
use proofs.Calling.{calls, restarts}
use proofs.Carrying.{cuts, delivers, hands}
use proofs.Next.{Keeps, stays_by}
use proofs.Opening.{accepts, dials}
use Rattle.pg_world.specs.declared.world_step.WorldStep.TheVariants as step

module _ (w : Nodes) (sound : IsWorld w) where
  kept : (t : WorldStep) → IsWrittenStep t → Keeps w t (turn_of w t)
  kept (step.Call i seat e) written = calls w sound i seat e written
  kept (step.Dial i j seat c) written = dials w sound i j seat c written
  kept (step.Accept n seat c) written = accepts w sound n seat c written
  kept (step.Hand n at seat) written = hands w sound n at seat
  kept (step.Deliver n at seat) written = delivers w sound n at seat
  kept (step.Cut n at seat) written = cuts w sound n at seat
  kept (step.Restart i seat) written = restarts w sound i seat

pub stays : (w v : Nodes) (t : WorldStep) (r : Result WorldReply WorldFault) → IsWorld w
    → IsWrittenStep t → IsWorldStep w t v r → IsWorld v
stays w v t r sound written s = stays_by w v t r sound (kept w sound t written) s
