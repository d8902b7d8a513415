-- How a state stops.
use Rattle.std.specs.Prelude.{◌≡◌, ⊤, List, Some}
use Rattle.dist_types.specs.declared.fault.TextFault.{TextFault}
use Rattle.dist_types.specs.declared.fault.TextFault.TheVariants as text
use Rattle.link_states.specs.declared.refusal.Refusal.{Refusal}
use Rattle.link_states.specs.declared.refusal.Refusal.TheVariants as refusals
use Rattle.link_states.specs.declared.state_rule.StateRule.TheVariants as rule
use Rattle.link_states.specs.declared.stopped.Stopped.{Stopped}
use Rattle.link_states.specs.declared.stopped.Stopped.TheVariants as stopped
use Rattle.link_states.specs.Checks.{Check, first_broken}
use Rattle.link_states.specs.Frames.{refusal_frames}

-- a state ends by the first rule that is broken, with the frames that it owes; for want of memory
-- it is handed back as it was
abbrev pub IsStopped : {S : Type 0} → Stopped S → S → List Check → Type 0
IsStopped (stopped.Ended rule frames) state checks = (first_broken checks ≡ Some rule)
    × (frames ≡ refusal_frames rule)
IsStopped (stopped.OutOfMemory back) state checks = back ≡ state

-- the refusal names the first check that fails
abbrev pub IsBroken : Refusal → List Check → Type 0
IsBroken (refusals.Broken rule) checks = first_broken checks ≡ Some rule
IsBroken refusals.OutOfMemory checks = ⊤

-- what a fault of the name in a name frame is refused as
abbrev pub refusal_of : TextFault → Refusal
refusal_of text.OutOfMemory = refusals.OutOfMemory
refusal_of fault = refusals.Broken rule.BadName
