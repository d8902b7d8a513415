-- A link that is given up.
use Rattle.std.specs.Prelude.{◌≡◌, ℕ, ◌+◌, nat_lt, min, cond, Bool, true, false, List, [], Result, Ok, Err}
use Rattle.policy_audit.specs.declared.event.Event.TheVariants.{Lost}
use Rattle.policy_audit.specs.declared.reply.Reply.{Reply}
use Rattle.policy_audit.specs.declared.rule.Rule.TheVariants.{EntriesFull}
use Rattle.node_core.specs.declared.fault.CoreFault.TheVariants.{Refused, OutOfMemory}
use Rattle.node_threads.specs.declared.fault.CallFault.{CallFault}
use Rattle.node_threads.specs.declared.fault.CallFault.TheVariants.{StrangePass, Core}
use Rattle.node_threads.specs.declared.pass.Call.{Call}
use Rattle.node_threads.specs.declared.retreat.RetreatStep.{RetreatStep}
use Rattle.node_threads.specs.declared.retreat.RetreatStep.TheVariants as steps
use Rattle.node_threads.specs.Calls.{Record}
use Rattle.node_threads.specs.Entered.{Enters}

-- how many wants of memory there were, up to 64
abbrev pub tries_after : ℕ → Result Reply CallFault → ℕ
tries_after tries (Err (Core OutOfMemory)) = min 64 (tries + 1)
tries_after tries (Err (Core (Refused rule))) = tries
tries_after tries (Err StrangePass) = tries
tries_after tries (Ok reply) = tries

-- what follows: the 64th want of memory is the last
abbrev pub step_after : ℕ → Result Reply CallFault → RetreatStep
step_after tries (Err (Core OutOfMemory)) = cond (nat_lt (tries + 1) 64) steps.Again steps.Stuck
step_after tries (Err (Core (Refused EntriesFull))) = steps.Full
step_after tries (Err (Core (Refused rule))) = steps.Settled
step_after tries (Err StrangePass) = steps.Settled
step_after tries (Ok reply) = steps.Settled

-- the link was given up: the last that was called is its Lost, which the pass has gained where it
-- is an entry; the answer says what follows
pub record GivesUp (link : ℕ) (pass : Record) (lost : List Call) (step : RetreatStep)
    (pass' : Record) : Type 0 where
  pub answer : Result Reply CallFault
  pub enters : Enters pass (Lost link) answer lost pass'
  pub step_is : step ≡ step_after 63 answer

-- a worker leaves its link: it gives it up where it is to, and else calls nothing
abbrev pub Leaves : ℕ → Bool → Record → List Call → RetreatStep → Record → Type 0
Leaves link true pass lost step pass' = GivesUp link pass lost step pass'
Leaves link false pass lost step pass' = (lost ≡ []) × (step ≡ steps.Settled) × (pass' ≡ pass)
