use Rattle.std.specs.Prelude.{All, codes, ◌≡◌}
use Rattle.refusals.proofs.tables.crowd_of.Given as goal

-- the processes so far are of the node
abbrev pub invariant-loop-number : goal.invariant-loop-number
invariant-loop-number l = All (λ p. p.node ≡ codes "b@h") l.list.items
