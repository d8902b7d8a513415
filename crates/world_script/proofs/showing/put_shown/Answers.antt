use Rattle.std.proofs.Common.{ap, arith, codes, [], ◌++◌, ◌∙◌}
use Rattle.std.specs.Option.{option_map_or}
use Rattle.world_script.specs.Showing.{shown_text}
use Rattle.world_script.proofs.Shown.{shows_on}
use Rattle.world_script.proofs.showing.put_shown.Goals as goal

pub loop-place-preserved : goal.loop-place-preserved
loop-place-preserved c =
    let text = shown_text c.args.scope.now c.args.group.now in
    shows_on text c.args.world.now.nodes c.loop-place.place c.args.out.now.items (codes "show")
    c.loop-place.out.items c.put_place.new.out.items
    (omega (arith, c.loop-place-test.true, c.nodes-place-end.ensures)) c.loop-place.invariant
    (c.in_ok-put_place.ensures ∙ ap (λ o. c.loop-place.out.items ++ option_map_or text o [])
    c.node.ensures)
