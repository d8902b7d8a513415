-- What a node's answer makes of the frames under way on a wire, and what is said of it.
use Rattle.std.specs.Prelude.{ℕ, Bool, true, false, cond, List, [], ◌∷◌, ◌++◌, Option, Some, None, Ok, Err, length, drop}
use Rattle.std.specs.declared.result.Result.{Result}
use Rattle.policy_audit.specs.declared.event.Event.{Event}
use Rattle.policy_audit.specs.declared.reply.Reply.{Reply}
use Rattle.policy_audit.specs.declared.reply.Reply.TheVariants as reply
use Rattle.policy_audit.specs.declared.rule.Rule.TheVariants as rule
use Rattle.policy_audit.specs.OutFrame.{OutFrame}
use Rattle.policy_audit.specs.History.{History}
use Rattle.node_core.specs.declared.fault.CoreFault.{CoreFault}
use Rattle.node_core.specs.declared.fault.CoreFault.TheVariants as core_fault
use Rattle.node_core.specs.Step.{IsStepped}
use Rattle.pg_world.specs.declared.world_step.WorldReply.{WorldReply}
use Rattle.pg_world.specs.declared.world_step.WorldReply.TheVariants as answer
use Rattle.pg_world.specs.declared.fault.WorldFault.{WorldFault}
use Rattle.pg_world.specs.declared.fault.WorldFault.TheVariants as fault

-- a node makes one step, and its answer has this effect
pub record Answers (before : History) (seat : ℕ) (e : Event) (after : History)
    (Effect : Result Reply CoreFault → Type 0) : Type 0 where
  pub answer : Result Reply CoreFault
  pub stepped : IsStepped before seat e after answer
  pub effect : Effect answer

-- ---- what is said

-- the node's own answer
abbrev pub plain : Result Reply CoreFault → Result WorldReply WorldFault
plain (Ok r) = Ok (answer.Answer r)
plain (Err f) = Err (fault.Core f)

-- the frames that a node hands over
abbrev pub frames_in : Reply → List OutFrame
frames_in (reply.Out frames) = frames
frames_in r = []

-- how many they are
abbrev pub count_handed : Result Reply CoreFault → Result WorldReply WorldFault
count_handed (Ok r) = Ok (answer.Handed (length (frames_in r)))
count_handed (Err f) = Err (fault.Core f)

-- the place of a new wire
abbrev pub place_dialled : ℕ → Result Reply CoreFault → Result WorldReply WorldFault
place_dialled n (Ok r) = Ok (answer.Wire n)
place_dialled n (Err f) = Err (fault.Core f)

-- ---- what changes

-- the link that a node opened
abbrev pub link_opened : Result Reply CoreFault → Option ℕ
link_opened (Ok (reply.Link l)) = Some l
link_opened a = None

-- frames that are handed over join the queue, in order
abbrev pub joined_by : Result Reply CoreFault → List OutFrame → List OutFrame
joined_by (Ok r) q = q ++ frames_in r
joined_by (Err f) q = q

-- a frame that comes leaves its queue, unless the audit is full or memory is wanting
abbrev pub leaves : Result Reply CoreFault → Bool
leaves (Err (core_fault.Refused rule.EntriesFull)) = false
leaves (Err core_fault.OutOfMemory) = false
leaves a = true

-- the queue after its oldest frame came
abbrev pub left_by : Result Reply CoreFault → List OutFrame → List OutFrame
left_by a q = cond (leaves a) (drop 1 q) q

-- a link that is lost, or was not kept, gets nothing any more
abbrev pub is_gone : Result Reply CoreFault → Bool
is_gone (Ok r) = true
is_gone (Err (core_fault.Refused rule.NoSuchLink)) = true
is_gone a = false

-- the queue towards such a link
abbrev pub cut_by : Result Reply CoreFault → List OutFrame → List OutFrame
cut_by a q = cond (is_gone a) [] q

-- the body of the oldest frame
abbrev pub oldest : List OutFrame → List ℕ
oldest [] = []
oldest (f ∷ fs) = f.body
