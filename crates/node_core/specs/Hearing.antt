-- What a frame of the handshake makes of a link's state: the next one, or the first rule that is
-- broken.
use Rattle.std.specs.Prelude.{◌≡◌, ℕ, Bool, true, false, List, [], ◌∷◌, Option, Some, None}
use Rattle.std.specs.List.{flat_map}
use Rattle.std.specs.Option.{option_map, option_to_list}
use Rattle.handshake_frames.specs.Reading.{name_frame, challenge_frame, reply_frame, ack_frame}
use Rattle.handshake_frames.specs.Reading.{status_of}
use Rattle.admission_rules.specs.Admission.{AdmissionRules}
use Rattle.link_states.specs.declared.await_name.Named.{Named}
use Rattle.link_states.specs.declared.await_name.Named.TheVariants as named
use Rattle.link_states.specs.declared.pending.Pending.{Pending}
use Rattle.link_states.specs.declared.state_rule.StateRule.{StateRule}
use Rattle.link_states.specs.declared.state_rule.StateRule.TheVariants as broken
use Rattle.link_states.specs.Checks.{Check, first_broken, name_checks, answer_checks, reply_checks}
use Rattle.link_states.specs.Checks.{status_checks, challenge_checks, ack_checks}
use Rattle.link_states.specs.Frames.{own_challenge, reply_owed, ack_owed, status_owed}
use Rattle.link_states.specs.Frames.{refusal_frames}
use Rattle.link_states.specs.Named.{named_by}
use Rattle.link_states.specs.Peer.{found}
use Rattle.link_states.specs.States.{linked}
use Rattle.policy_audit.specs.declared.rule.Rule.{Rule}
use Rattle.policy_audit.specs.declared.rule.Rule.TheVariants as rule
use Rattle.node_core.specs.declared.link_state.LinkState.{LinkState}
use Rattle.node_core.specs.declared.link_state.LinkState.TheVariants as state
use Rattle.node_core.specs.declared.hearing.Heard.{Heard}
use Rattle.node_core.specs.Links.{KeptLink, up_peer, dialled_peer}
use Rattle.node_core.specs.declared.hearing.Heard.TheVariants as heard

-- the rule of the node that a rule of the handshake is
abbrev pub rule_of : StateRule → Rule
rule_of broken.BadFrame = rule.BadFrame
rule_of broken.NoHandshake23 = rule.NoHandshake23
rule_of broken.DynamicName = rule.DynamicName
rule_of broken.BadName = rule.BadName
rule_of broken.OwnName = rule.OwnName
rule_of broken.WrongName = rule.WrongName
rule_of broken.NotAllowed = rule.NotAllowed
rule_of broken.Simultaneous = rule.Simultaneous
rule_of broken.PeerSaid = rule.PeerSaid
rule_of broken.BadDigest = rule.BadDigest
rule_of broken.LinkUp = rule.LinkUp

-- who is up and who is dialled over other links
abbrev pub beside : List KeptLink → Pending
beside links = record {
  up = flat_map (λ x. option_to_list (up_peer x.state)) links;
  dials = flat_map (λ x. option_to_list (dialled_peer x.state)) links;
}

-- the state is one of the handshake
abbrev pub is_handshake : LinkState → Bool
is_handshake (state.Up s) = false
is_handshake state.Ended = false
is_handshake s = true

-- the rules for a frame in a state, in their order
abbrev pub state_checks : AdmissionRules → Pending → LinkState → List ℕ → List Check
state_checks rules pending (state.Name challenge) body = name_checks rules pending (name_frame body)
state_checks rules pending (state.Answer s) body = answer_checks (status_of body)
state_checks rules pending (state.Reply s) body =
    reply_checks rules s.peer s.challenge (reply_frame body)
state_checks rules pending (state.Status dial) body =
    status_checks pending dial.peer (status_of body)
state_checks rules pending (state.Challenge dial) body =
    challenge_checks dial.peer (challenge_frame body)
state_checks rules pending (state.Ack s) body = ack_checks rules s.peer s.challenge (ack_frame body)
state_checks rules pending s body = []

-- what a name frame leads to, as any other frame does
abbrev pub heard_named : Named → Heard
heard_named (named.Alive s frames) = heard.On (state.Answer s) frames false
heard_named (named.Reply s frames gives_up) = heard.On (state.Reply s) frames gives_up

-- what an accepted frame leads to
abbrev pub accepted_as : AdmissionRules → Pending → LinkState → List ℕ → Option Heard
accepted_as rules pending (state.Name challenge) body =
    option_map (λ f. heard_named (named_by rules pending challenge f)) (name_frame body)
accepted_as rules pending (state.Answer s) body =
    Some (heard.On (state.Reply s) (own_challenge rules s.challenge ∷ []) false)
accepted_as rules pending (state.Reply s) body =
    option_map (λ f. heard.Up (linked s) (ack_owed rules s.peer f.challenge)) (reply_frame body)
accepted_as rules pending (state.Status dial) body =
    option_map (λ w. heard.On (state.Challenge dial) (status_owed w) false) (status_of body)
accepted_as rules pending (state.Challenge dial) body =
    option_map (λ f. heard.On (state.Ack (found rules dial f))
    (reply_owed rules dial.peer dial.challenge f.challenge) false) (challenge_frame body)
accepted_as rules pending (state.Ack s) body = Some (heard.Up (linked s) [])
accepted_as rules pending s body = None

-- what a frame leads to: on, where it breaks no rule; else to the end, by the first rule, with the
-- frames that it owes
abbrev pub Hears : AdmissionRules → Pending → LinkState → List ℕ → Heard → Type 0
Hears rules pending s body (heard.Ended r frames) = (b : StateRule) × (r ≡ rule_of b)
    × (first_broken (state_checks rules pending s body) ≡ Some b) × (frames ≡ refusal_frames b)
Hears rules pending s body (heard.OutOfMemory back) = back ≡ s
Hears rules pending s body result = (first_broken (state_checks rules pending s body) ≡ None)
    × (accepted_as rules pending s body ≡ Some result)
