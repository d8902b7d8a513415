-- What a call adds to its pass.
use Rattle.std.specs.Prelude.{◌≡◌, Bool, true, false, cond, List, [], ◌∷◌, ◌++◌, Option, Some, None, Result, Ok, Err}
use Rattle.policy_audit.specs.declared.event.Event.{Event}
use Rattle.policy_audit.specs.declared.reply.Reply.{Reply}
use Rattle.policy_audit.specs.declared.rule.Rule.{Rule}
use Rattle.policy_audit.specs.declared.rule.Rule.TheVariants.{EntriesFull}
use Rattle.policy_audit.specs.declared.entry.Verdict.{Verdict}
use Rattle.policy_audit.specs.declared.entry.Verdict.TheVariants as verdicts
use Rattle.node_core.specs.declared.fault.CoreFault.TheVariants.{Refused, OutOfMemory}
use Rattle.node_threads.specs.declared.fault.CallFault.{CallFault}
use Rattle.node_threads.specs.declared.fault.CallFault.TheVariants.{StrangePass, Core}
use Rattle.node_threads.specs.declared.pass.Call.{Call}
use Rattle.node_threads.specs.Applied.{Called}
use Rattle.node_threads.specs.Calls.{Record, Gains}

-- a refusal by this rule is an entry
abbrev pub is_entered : Rule → Bool
is_entered EntriesFull = false
is_entered rule = true

-- the verdict of the entry that was made, if one was: none by a full audit, want of memory or a
-- strange pass
abbrev pub verdict_in : Result Reply CallFault → Option Verdict
verdict_in (Ok reply) = Some (verdicts.Accepted reply)
verdict_in (Err (Core (Refused rule))) = cond (is_entered rule) (Some (verdicts.Refused rule)) None
verdict_in (Err (Core OutOfMemory)) = None
verdict_in (Err StrangePass) = None

-- the one call of this event with this verdict; without a verdict, no call
abbrev pub IsEntry : Event → Option Verdict → List Call → Type 0
IsEntry e None calls = calls ≡ []
IsEntry e (Some v) calls = (c : Call) × (calls ≡ c ∷ []) × (c.event ≡ e) × (c.verdict ≡ v)

-- the event was called and answered so, and the pass has gained the call where it is an entry, and
-- nothing else
pub record Enters (pass : Record) (e : Event) (answer : Result Reply CallFault) (more : List Call)
    (pass' : Record) : Type 0 where
  pub called : Called pass e answer pass'
  pub entry : IsEntry e (verdict_in answer) more
  pub gains : Gains pass more pass'

-- the pass has gained these calls, and the last that was called is this event, answered with this
-- fault
pub record EndsAt (e : Event) (fault : CallFault) (pass : Record) (calls : List Call)
    (pass' : Record) : Type 0 where
  pub earlier : List Call
  pub mid : Record
  pub last : List Call
  pub calls_are : calls ≡ earlier ++ last
  pub before : Gains pass earlier mid
  pub enters : Enters mid e (Err fault) last pass'
