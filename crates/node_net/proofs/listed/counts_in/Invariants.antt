use Rattle.std.proofs.Common.{map, take, ◌≡◌}
use Rattle.scope_core.specs.Table.{count_of}
use Rattle.node_net.proofs.listed.counts_in.Given as goal

abbrev pub invariant-loop-row : goal.invariant-loop-row
invariant-loop-row l = l.counts.items
    ≡ map (λ row. count_of l.table row.group row.pid) (take l.row-index l.rows)
