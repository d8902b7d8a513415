use Rattle.scope_core.proofs
use proofs.Words.{IsLowered, take, ◌≡◌}
use proofs.lowering.lower_all.Given as goal

-- all rows so far are lowered
abbrev pub invariant-loop-row : goal.invariant-loop-row
invariant-loop-row l = (l.lowered ≡ l.row-index) × (l.counts.node ≡ l.fn.counts.node)
    × IsLowered (take l.lowered l.gone) l.counts.entries l.fn.counts.entries
