-- What a name frame and a challenge frame say of the peer.
use Rattle.std.specs.Prelude.{◌≡◌, ℕ, ◌==◌, Bool, ◌&&◌, not, if◌then◌else◌}
use Rattle.dist_types.specs.Flags.{has_bit}
use Rattle.handshake_frames.specs.Frame.{Name, Challenge}
use Rattle.admission_rules.specs.Admission.{AdmissionRules}
use Rattle.link_states.specs.declared.peer.Peer.{Peer}
use Rattle.link_states.specs.States.{Dialled, Introduced}

-- neither end is hidden: the peer's flags have bit 0
abbrev pub is_visible : AdmissionRules → ℕ → Bool
is_visible rules flags = not rules.hidden && has_bit 0 flags

-- the version of the link's messages: 2 where the node knows it and the peer's frame says it, else
-- 1
abbrev pub link_version : AdmissionRules → ℕ → ℕ
link_version rules version = if (rules.links == 2) && (version == 2) then 2 else 1

-- the peer is as its name frame says
abbrev pub IsPeer : AdmissionRules → Peer → Name → Type 0
IsPeer rules peer said =
    (peer.name ≡ said.name) × (peer.creation ≡ said.creation)
    × (peer.visible ≡ is_visible rules said.flags)
    × (peer.version ≡ link_version rules said.version)

-- an acceptor with this challenge, after its peer's name frame
abbrev pub introduced : AdmissionRules → ℕ → Name → Introduced
introduced rules challenge peer =
    record {
      peer = peer.name;
      creation = peer.creation;
      visible = is_visible rules peer.flags;
      version = link_version rules peer.version;
      challenge = challenge;
    }

-- a dialler, after its peer's challenge frame
abbrev pub found : AdmissionRules → Dialled → Challenge → Introduced
found rules dial peer =
    record {
      peer = dial.peer;
      creation = peer.creation;
      visible = is_visible rules peer.flags;
      version = link_version rules peer.version;
      challenge = dial.challenge;
    }
