use Rattle.std.proofs.Common.{codes, take, ◌++◌, ◌≡◌}
use Rattle.std.specs.List.{flat_map}
use Rattle.world_script.specs.Showing.{shown_text}
use Rattle.world_script.proofs.showing.put_shown.Given as goal

-- the nodes so far are shown
abbrev pub invariant-loop-place : goal.invariant-loop-place
invariant-loop-place l = l.out.items ≡ l.fn.out.items ++ codes "show" ++ flat_map
    (shown_text l.fn.scope l.fn.group) (take l.place l.fn.world.nodes)
