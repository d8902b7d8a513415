-- The bodies that a state owes its peer.
use Rattle.std.specs.Prelude.{ℕ, List, [], ◌∷◌}
use Rattle.dist_types.specs.Flags.{own_flags}
use Rattle.handshake_frames.specs.Spelling.{name_bytes, status_bytes, challenge_bytes, reply_bytes, ack_bytes}
use Rattle.handshake_frames.specs.declared.frame.StatusWord.{StatusWord}
use Rattle.handshake_frames.specs.declared.frame.StatusWord.TheVariants as word
use Rattle.cookie_digest.specs.Digest.{digest_of}
use Rattle.admission_rules.specs.Admission.{AdmissionRules, cookie_of}
use Rattle.link_states.specs.declared.state_rule.StateRule.{StateRule}
use Rattle.link_states.specs.declared.state_rule.StateRule.TheVariants as rule

-- the node's own name frame, with the latest version that it knows
abbrev pub own_name : AdmissionRules → List ℕ
own_name rules =
    name_bytes (record {
      flags = own_flags rules.hidden;
      creation = rules.creation;
      name = rules.own;
      version = rules.links;
    })

-- the node's own challenge frame, with that version
abbrev pub own_challenge : AdmissionRules → ℕ → List ℕ
own_challenge rules challenge =
    challenge_bytes (record {
      flags = own_flags rules.hidden;
      challenge = challenge;
      creation = rules.creation;
      name = rules.own;
      version = rules.links;
    })

-- the status that answers a name frame, and the own challenge, which `alive` withholds
abbrev pub greeting_owed : AdmissionRules → ℕ → StatusWord → List (List ℕ)
greeting_owed rules challenge word.Alive = status_bytes word.Alive ∷ []
greeting_owed rules challenge status = status_bytes status ∷ own_challenge rules challenge ∷ []

-- a status owes `true`, where it is `alive`
abbrev pub status_owed : StatusWord → List (List ℕ)
status_owed word.Alive = status_bytes word.True ∷ []
status_owed status = []

-- a challenge owes the own challenge, and the digest for the peer's
abbrev pub reply_owed : AdmissionRules → List ℕ → ℕ → ℕ → List (List ℕ)
reply_owed rules peer challenge peers =
    reply_bytes (record { challenge = challenge; digest = digest_of (cookie_of rules peer) peers })
    ∷ []

-- a reply owes the digest for the peer's challenge
abbrev pub ack_owed : AdmissionRules → List ℕ → ℕ → List (List ℕ)
ack_owed rules peer peers = ack_bytes (record { digest = digest_of (cookie_of rules peer) peers })
    ∷ []

-- a refusal owes the status that says so, by three of the rules
abbrev pub refusal_frames : StateRule → List (List ℕ)
refusal_frames rule.NotAllowed = status_bytes word.NotAllowed ∷ []
refusal_frames rule.Simultaneous = status_bytes word.Nok ∷ []
refusal_frames rule.LinkUp = status_bytes word.False ∷ []
refusal_frames other = []
