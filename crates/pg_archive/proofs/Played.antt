-- A step that has an answer leaves the node as the policy makes it.
use Rattle.std.proofs.Common.{Err, Ok, ℕ}
use Rattle.policy_audit.specs.declared.event.Event.{Event}
use Rattle.policy_audit.specs.declared.reply.Reply.{Reply}
use Rattle.policy_audit.specs.declared.rule.Rule.{Rule}
use Rattle.policy_audit.specs.History.{History}
use Rattle.node_core.specs.declared.fault.CoreFault.TheVariants as faults
use Rattle.node_core.specs.Step.{IsStepped}
use Rattle.pg_archive.specs.Following.{Steps}

pub accepted : (old new : History) (seat : ℕ) (event : Event) (reply : Reply)
    → IsStepped old seat event new (Ok reply) → Steps old seat event new
unfolding IsStepped Steps
accepted old new seat event reply is = is.1

pub refused : (old new : History) (seat : ℕ) (event : Event) (rule : Rule)
    → IsStepped old seat event new (Err (faults.Refused rule)) → Steps old seat event new
unfolding IsStepped Steps
refused old new seat event rule is = is.1
