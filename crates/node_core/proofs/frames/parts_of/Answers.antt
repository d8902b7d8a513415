use Rattle.node_core.proofs
use proofs.Words.{ap, length, wide_frames, ◌∙◌, ◌≤◌}
use Rattle.dist_types.proofs.Sorts.{all_from}
use Rattle.link_frames.specs.Parts.{message2_bytes, parts}
use Rattle.link_frames.specs.Stream.{max_body}
use proofs.Told.{map_map, wide_body}
use proofs.frames.parts_of.Goals as goal

pub wide_frames-requires : goal.wide_frames-requires
wide_frames-requires c =
    all_from (λ body. length body ≤ max_body) c.in_ok-bodies.bodies.items
    (λ k d l h. c.in_ok-bodies.ensures.short k d h)

pub returns : goal.returns
returns c =
    c.in_ok-frames.ensures
    ∙ ap wide_frames c.in_ok-bodies.ensures.value
    ∙ map_map wide_body message2_bytes (parts c.args.message.now)
