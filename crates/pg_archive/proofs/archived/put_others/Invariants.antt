use Rattle.std.proofs.Common.{codes, take, ◌++◌, ◌≡◌}
use Rattle.std.specs.List.{flat_map}
use Rattle.pg_archive.proofs.archived.put_others.Given as goal

-- the values so far are added
abbrev pub invariant-loop-item : goal.invariant-loop-item
invariant-loop-item g l = l.out.items ≡ l.fn.out.items
    ++ flat_map (λ y. codes "," ++ g.T.Archived.text y) (take l.item-index l.items)
