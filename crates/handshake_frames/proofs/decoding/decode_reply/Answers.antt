use Rattle.handshake_frames.proofs
use Rattle.handshake_frames.specs
use Rattle.std.proofs.Common.{refl}
use specs.Spelling.{SpellsReply}
use specs.Reading.{reply_frame}
use proofs.FoundFrames.{reads_as}
use proofs.ReadingLemmas.{reply_frame-spelled, SpellsReply-read}
use proofs.decoding.decode_reply.Goals as goal

pub returns-clause-value : goal.returns-clause-value
returns-clause-value c =
    let body = c.args.body.now in
    rw c.ok_or.ensures.value
    (reads_as (SpellsReply body) (λ f. f) (reply_frame body) _ _ (reply_frame-spelled body)
    (SpellsReply-read body) c.reply_at.ensures.found
    (λ f spelled. rw (c.reply_at.ensures.only f spelled) refl))
