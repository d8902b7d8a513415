use Rattle.scope_core.proofs
use proofs.Words.{AllWithin, is_in, true, ◌≡◌}
use proofs.reads.run_of.Given as goal

-- the rows so far are of the group
abbrev pub invariant-loop-len : goal.invariant-loop-len
invariant-loop-len l = AllWithin (λ c. is_in l.group c ≡ true) l.rows 0 l.len
