-- What a name frame makes of an acceptor.
use Rattle.std.specs.Prelude.{ℕ, Bool, if◌then◌else◌}
use Rattle.handshake_frames.specs.Frame.{Name}
use Rattle.handshake_frames.specs.declared.frame.StatusWord.{StatusWord}
use Rattle.handshake_frames.specs.declared.frame.StatusWord.TheVariants as word
use Rattle.admission_rules.specs.Admission.{AdmissionRules}
use Rattle.link_states.specs.declared.await_name.Named.{Named}
use Rattle.link_states.specs.declared.await_name.Named.TheVariants as named
use Rattle.link_states.specs.declared.pending.Pending.{Pending}
use Rattle.link_states.specs.Pending.{is_up, is_dialled}
use Rattle.link_states.specs.Peer.{introduced}
use Rattle.link_states.specs.Frames.{greeting_owed}

-- the status that answers a name frame
abbrev pub welcome : Bool → Bool → StatusWord
welcome is_up gives_up = if is_up then word.Alive else if gives_up then word.OkSimultaneous else
    word.Ok

-- a peer of which a link is up is asked whether it wants another; an own dial to any other peer is
-- given up
abbrev pub named_by : AdmissionRules → Pending → ℕ → Name → Named
named_by rules pending challenge peer =
    let state = introduced rules challenge peer in
    let gives_up = is_dialled pending peer.name in
    let frames = greeting_owed rules challenge (welcome (is_up pending peer.name) gives_up) in
    if is_up pending peer.name then named.Alive state frames else named.Reply state frames gives_up
