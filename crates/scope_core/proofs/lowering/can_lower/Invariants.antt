use Rattle.scope_core.proofs
use proofs.Words.{IsLowered, length, take, ◌≡◌, ◌≤◌}
use proofs.lowering.can_lower.Given as goal

-- the first rows are lowered still
abbrev pub invariant-loop-lowered : goal.invariant-loop-lowered
invariant-loop-lowered l = (l.lowered ≤ length l.gone) × (l.counts.node ≡ l.fn.counts.node)
    × IsLowered (take l.lowered l.gone) l.counts.entries l.fn.counts.entries

abbrev pub decreases-loop-lowered : goal.decreases-loop-lowered
decreases-loop-lowered l = l.lowered
