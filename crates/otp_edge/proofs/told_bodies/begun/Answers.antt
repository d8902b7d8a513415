use Rattle.otp_edge.proofs
use proofs.Words.{ap, [], ◌++◌, ◌∙◌, ◌∷◌}
use Rattle.external_terms.specs.Values.{atom_bytes}
use Rattle.otp_edge.specs.Bodies.{control_bytes, pass_through, version}
use proofs.EdgeLemmas.{ok_so}
use Rattle.otp_edge.proofs.told_bodies.begun.Goals as goal

pub returns : goal.returns
returns c = ok_so c.before_message.result (λ body is. is ∙ ap (λ s. pass_through ∷ version ∷ []
    ++ control_bytes 3 2 (atom_bytes []) s [] ++ version ∷ [])
    (c.deref.ensures.value ∙ c.in_ok-second.ensures)) c.before_message.ensures
