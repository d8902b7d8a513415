use Rattle.handshake_frames.proofs
use proofs.ReadingLemmas.{challenge_frame-spelled, name_frame-spelled}
use proofs.laws.one_frame.Goals as goal

pub returns-clause-name : goal.returns-clause-name
returns-clause-name c =
    λ body f g a b. cc (name_frame-spelled body f a, name_frame-spelled body g b)

pub returns-clause-challenge : goal.returns-clause-challenge
returns-clause-challenge c =
    λ body f g a b. cc (challenge_frame-spelled body f a, challenge_frame-spelled body g b)
