-- The rules for each frame of the handshake, in their order.
use Rattle.std.specs.Prelude.{◌≡◌, ℕ, ◌==◌, Bool, true, false, cond, ◌&&◌, ◌||◌, not, List, [], ◌∷◌, Option, Some, None, length, bytes_eq}
use Rattle.std.specs.Ordering.{is_gt}
use Rattle.dist_types.specs.Text.{is_node_name}
use Rattle.dist_types.specs.Flags.{has_bit}
use Rattle.dist_types.specs.Order.{text_cmp}
use Rattle.handshake_frames.specs.Frame.{Name, Challenge}
use Rattle.handshake_frames.specs.declared.frame.StatusWord.{StatusWord}
use Rattle.handshake_frames.specs.declared.frame.StatusWord.TheVariants as word
use Rattle.handshake_frames.specs.declared.frame.ReplyFrame.{ReplyFrame}
use Rattle.handshake_frames.specs.declared.frame.AckFrame.{AckFrame}
use Rattle.cookie_digest.specs.Digest.{digest_of}
use Rattle.admission_rules.specs.Admission.{AdmissionRules, cookie_of}
use Rattle.link_states.specs.declared.pending.Pending.{Pending}
use Rattle.link_states.specs.declared.state_rule.StateRule.{StateRule}
use Rattle.link_states.specs.declared.state_rule.StateRule.TheVariants as rule
use Rattle.link_states.specs.Pending.{has_name, is_up, is_dialled}

-- a rule, and whether it is broken
pub record Check : Type 0 where
  pub broken : Bool
  pub rule : StateRule

-- the rule is broken, unless the test holds
abbrev pub unless : Bool → StateRule → Check
unless holds rule = record { broken = not holds; rule = rule }

-- the rule of the first check that fails
abbrev pub first_broken : List Check → Option StateRule
first_broken [] = None
first_broken (c ∷ cs) = cond c.broken (Some c.rule) (first_broken cs)

-- no check fails
abbrev pub PassesAll : List Check → Type 0
PassesAll checks = first_broken checks ≡ None

-- no name is allowed, so that all are, or this one is
abbrev pub allows : AdmissionRules → List ℕ → Bool
allows rules name = (length rules.allowed == 0) || has_name rules.allowed name

-- the node dials the peer that dials it, has no link of it up, and has the greater name
abbrev pub outranks : AdmissionRules → Pending → List ℕ → Bool
outranks rules pending peer = not (is_up pending peer) && is_dialled pending peer
    && is_gt (text_cmp rules.own peer)

-- the status lets the dialler go on
abbrev pub goes_on : StatusWord → Bool
goes_on word.Ok = true
goes_on word.OkSimultaneous = true
goes_on word.Alive = true
goes_on other = false

-- the status asks for the new link in place of the one that is up
abbrev pub is_true : StatusWord → Bool
is_true word.True = true
is_true other = false

-- the acceptor has a link of the dialler up
abbrev pub is_alive : StatusWord → Bool
is_alive word.Alive = true
is_alive other = false

-- the digest is that of the peer's cookie and the own challenge
abbrev pub is_answer : AdmissionRules → List ℕ → ℕ → List ℕ → Bool
is_answer rules peer challenge digest = bytes_eq digest (digest_of (cookie_of rules peer) challenge)

-- where a name frame is awaited
abbrev pub name_checks : AdmissionRules → Pending → Option Name → List Check
name_checks rules pending None = unless false rule.BadFrame ∷ []
name_checks rules pending (Some peer) =
    unless (has_bit 24 peer.flags) rule.NoHandshake23
    ∷ unless (not (has_bit 33 peer.flags)) rule.DynamicName
    ∷ unless (is_node_name peer.name) rule.BadName
    ∷ unless (not (bytes_eq peer.name rules.own)) rule.OwnName
    ∷ unless (allows rules peer.name) rule.NotAllowed
    ∷ unless (not (outranks rules pending peer.name)) rule.Simultaneous
    ∷ []

-- where the answer to the status `alive` is awaited
abbrev pub answer_checks : Option StatusWord → List Check
answer_checks None = unless false rule.BadFrame ∷ []
answer_checks (Some status) = unless (is_true status) rule.PeerSaid ∷ []

-- where a reply is awaited
abbrev pub reply_checks : AdmissionRules → List ℕ → ℕ → Option ReplyFrame → List Check
reply_checks rules peer challenge None = unless false rule.BadFrame ∷ []
reply_checks rules peer challenge (Some reply) =
    unless (is_answer rules peer challenge reply.digest) rule.BadDigest ∷ []

-- where the status is awaited
abbrev pub status_checks : Pending → List ℕ → Option StatusWord → List Check
status_checks pending peer None = unless false rule.BadFrame ∷ []
status_checks pending peer (Some status) =
    unless (goes_on status) rule.PeerSaid
    ∷ unless (not (is_alive status && is_up pending peer)) rule.LinkUp
    ∷ []

-- where the challenge is awaited
abbrev pub challenge_checks : List ℕ → Option Challenge → List Check
challenge_checks peer None = unless false rule.BadFrame ∷ []
challenge_checks peer (Some challenge) =
    unless (has_bit 24 challenge.flags) rule.NoHandshake23
    ∷ unless (bytes_eq challenge.name peer) rule.WrongName
    ∷ []

-- where the acknowledgement is awaited
abbrev pub ack_checks : AdmissionRules → List ℕ → ℕ → Option AckFrame → List Check
ack_checks rules peer challenge None = unless false rule.BadFrame ∷ []
ack_checks rules peer challenge (Some ack) =
    unless (is_answer rules peer challenge ack.digest) rule.BadDigest ∷ []
