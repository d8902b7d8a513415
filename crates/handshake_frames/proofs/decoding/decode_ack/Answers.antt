use Rattle.handshake_frames.proofs
use Rattle.handshake_frames.specs
use Rattle.std.proofs.Common.{refl}
use specs.Spelling.{SpellsAck}
use specs.Reading.{ack_frame}
use proofs.FoundFrames.{reads_as}
use proofs.ReadingLemmas.{ack_frame-spelled, SpellsAck-read}
use proofs.decoding.decode_ack.Goals as goal

pub returns-clause-value : goal.returns-clause-value
returns-clause-value c =
    let body = c.args.body.now in
    rw c.ok_or.ensures.value
    (reads_as (SpellsAck body) (λ f. f) (ack_frame body) _ _ (ack_frame-spelled body)
    (SpellsAck-read body) c.ack_at.ensures.found (λ f spelled. rw (c.ack_at.ensures.only f spelled)
    refl))
