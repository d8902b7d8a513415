-- Messages of linked nodes.
use Rattle.std.specs.Prelude.{ℕ, Bool, true, false, not, ◌&&◌, cond, List, Option, Some, None}
use Rattle.std.specs.Option.{option_map}
use Rattle.link_frames.specs.declared.part.PartKind.{PartKind}
use Rattle.link_frames.specs.declared.part.PartKind.TheVariants as kinds
use Rattle.link_frames.specs.declared.part.Message2.{Message2}
use Rattle.link_frames.specs.declared.part.Message2.TheVariants as frames
use Rattle.link_frames.specs.Parts.{is_next, whole}
use Rattle.link_frames.specs.PartReading.{message2}
use Rattle.link_frames.specs.Reading.{message}
use Rattle.policy_audit.specs.declared.rule.Rule.{Rule}
use Rattle.policy_audit.specs.declared.rule.Rule.TheVariants as rule
use Rattle.node_core.specs.Links.{KeptLink, are_of_peer}
use Rattle.node_core.specs.ScopeFacts.{is_number}

-- the message that a body says on a link that takes messages in parts, or whole
abbrev pub says_in : Bool → List ℕ → Option Message2
says_in parted body = cond parted (message2 body) (option_map whole (message body))

-- the scope that a message is about
abbrev pub scope_in : Message2 → List ℕ
scope_in (frames.Discover s) = s
scope_in (frames.Part kind s number last rows) = s
scope_in (frames.Down s) = s

-- a Join and a Leave bring rows that go on with others
abbrev pub brings_further : PartKind → Bool
brings_further kinds.Sync = false
brings_further kinds.Join = true
brings_further kinds.Leave = true

-- the rule that a message on this link breaks first, but for those that the table tells: further
-- rows of a link that isn't one of those that are heard, a part that isn't next, rows of others
-- than the peer
abbrev pub refusal : KeptLink → List ℕ → Message2 → Option Rule
refusal link heard (frames.Part kind s number last rows) =
    cond (brings_further kind && not (is_number link.number heard)) (Some rule.NotHeard)
    (cond (not (is_next link.begun kind s number)) (Some rule.PartOrder)
    (cond (not (are_of_peer link.state rows)) (Some rule.ForeignPid) None))
refusal link heard m = None
