use Rattle.link_frames.proofs
use Rattle.dist_types.specs.Listing.{max_rows}
use proofs.Words.{All-push, ap, arith, length, Row, ◌-◌, ◌∙◌, ◌≡◌, ◌≤◌}
use Rattle.std.proofs.lemmas.List.{length-drop}
use Rattle.link_frames.specs.Stream.{max_body}
use proofs.PartLaws.{cut_one, rows_behind, rows_in_front}
use Rattle.link_frames.proofs.cutting.cut.Goals as goal

pub part_body-requires-clause-some : goal.part_body-requires-clause-some
part_body-requires-clause-some c = rows_in_front c.args.kind c.loop-rest.rest.now
    c.split_at.result.0.now (omega (arith, c.loop-rest-test.true)) c.split_at.ensures.front

pub loop-rest-preserved : goal.loop-rest-preserved
loop-rest-preserved c =
    let held = c.loop-rest.invariant in
    let rest = c.loop-rest.rest.now in
    let back = c.split_at.result.1.now in
    let behind : length back ≡ length rest - max_rows =
    ap (length {A = Row}) c.split_at.ensures.back ∙ length-drop max_rows rest in
    record {
      done = cut_one c.args.kind c.args.scope.now c.loop-rest.number rest c.split_at.result.0.now
          back c.loop-rest.bodies.items c.push.new.self.items
          _ (omega (arith, c.loop-rest-test.true))
          c.split_at.ensures.front c.split_at.ensures.back c.in_ok-part_body.ensures.value
          c.in_ok-push.ensures.items ∙ held.done;
      from_one = omega arith;
      left = omega (arith, behind, held.left, held.from_one, c.loop-rest-test.true);
      some = rows_behind c.args.kind rest back (omega (arith, c.loop-rest-test.true))
          c.split_at.ensures.back;
      short = rw c.in_ok-push.ensures.items
          (All-push (λ body. length body ≤ max_body) _ _ held.short
          c.in_ok-part_body.ensures.short);
    }
