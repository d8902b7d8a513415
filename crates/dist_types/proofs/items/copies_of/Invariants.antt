use Rattle.std.proofs.Common.{take, ◌≡◌}
use Rattle.dist_types.proofs.items.copies_of.Given as goal

-- the copies so far
abbrev pub invariant-loop-item : goal.invariant-loop-item
invariant-loop-item g l = l.copies.items ≡ take l.item-index l.items
