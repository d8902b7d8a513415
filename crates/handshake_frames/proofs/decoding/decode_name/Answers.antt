use Rattle.handshake_frames.proofs
use Rattle.handshake_frames.specs
use specs.Frame.{name_said}
use specs.Spelling.{SpellsName}
use specs.Reading.{name_frame}
use proofs.FoundFrames.{ok_or_has, reads_as}
use proofs.ReadingLemmas.{name_frame-spelled, SpellsName-read}
use proofs.decoding.decode_name.Goals as goal

pub returns-clause-only : goal.returns-clause-only
returns-clause-only c = λ name spelled. rw c.ok_or.ensures.value
    (ok_or_has c.name_at.result _ _ (c.name_at.ensures.only name spelled))

pub returns-clause-value : goal.returns-clause-value
returns-clause-value c =
    let body = c.args.body.now in
    rw c.ok_or.ensures.value
    (reads_as (SpellsName body) name_said (name_frame body) _ _ (name_frame-spelled body)
    (SpellsName-read body) c.name_at.ensures.found c.name_at.ensures.only)
