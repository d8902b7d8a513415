-- What is known of a peer's rows over a link, and which message an entry accepts there.
use Rattle.std.specs.Prelude.{ℕ, cond, ◌&&◌, ◌==◌, List, [], Option, Some, None}
use Rattle.std.specs.Option.{option_to_list}
use Rattle.dist_types.specs.declared.pid.Pid.{Pid}
use Rattle.link_frames.specs.declared.message.Message.{Message}
use Rattle.policy_audit.specs.declared.opening.Opening.{Opening}
use Rattle.policy_audit.specs.declared.event.Event.{Event}
use Rattle.policy_audit.specs.declared.event.Event.TheVariants as event
use Rattle.policy_audit.specs.declared.entry.Verdict.{Verdict}
use Rattle.policy_audit.specs.declared.entry.Verdict.TheVariants.{Accepted}
use Rattle.policy_audit.specs.declared.entry.Entry.{Entry}
use Rattle.policy_audit.specs.Sides.{is_whole}
use Rattle.policy_audit.specs.Hearing.{said_at, heard, stated}

-- how often link l has stated p in g, or None where its peer isn't heard in s
abbrev pub known : Opening → ℕ → List ℕ → List ℕ → Pid → List Entry → Option ℕ
known o l s g p es = cond (heard o l s es) (Some (stated o l s g p es)) None

-- the message that the entry after these accepts on link l, if it does
abbrev pub message_at : Opening → ℕ → List Entry → Verdict → Event → List Message
message_at o l es (Accepted r) (event.Frame k body) =
    cond (k == l && is_whole l es) (option_to_list (said_at o l es body)) []
message_at o l es v e = []
