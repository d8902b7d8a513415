use Rattle.link_frames.specs
use Rattle.link_frames.proofs.Words.{length, subst, sym, ◌∙◌, ◌≤◌}
use specs.Stream.{max_body}
use specs.declared.part.Message2.{Message2}
use Rattle.link_frames.proofs.cutting.part_body.Goals as goal

pub returns-clause-short : goal.returns-clause-short
returns-clause-short c =
    let a = c.args in
    subst (λ bytes. length bytes ≤ max_body)
    (sym (c.in_ok-body.ensures
    ∙ rw c.new-bytes.ensures.items at c.in_ok-encode_part.ensures.ok))
    (c.fits_a_reader_in_parts.ensures
    (Message2.Part a.kind a.scope.now a.number a.last a.rows.now)
    c.in_ok-encode_part.ensures.limits)
