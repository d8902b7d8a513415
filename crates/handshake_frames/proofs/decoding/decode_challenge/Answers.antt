use Rattle.handshake_frames.proofs
use Rattle.handshake_frames.specs
use specs.Frame.{challenge_said}
use specs.Spelling.{SpellsChallenge}
use specs.Reading.{challenge_frame}
use proofs.FoundFrames.{ok_or_has, reads_as}
use proofs.ReadingLemmas.{challenge_frame-spelled, SpellsChallenge-read}
use proofs.decoding.decode_challenge.Goals as goal

pub returns-clause-only : goal.returns-clause-only
returns-clause-only c = λ challenge spelled. rw c.ok_or.ensures.value
    (ok_or_has c.challenge_at.result _ _ (c.challenge_at.ensures.only challenge spelled))

pub returns-clause-value : goal.returns-clause-value
returns-clause-value c =
    let body = c.args.body.now in
    rw c.ok_or.ensures.value
    (reads_as (SpellsChallenge body) challenge_said (challenge_frame body)
    _ _ (challenge_frame-spelled body) (SpellsChallenge-read body) c.challenge_at.ensures.found
    c.challenge_at.ensures.only)
