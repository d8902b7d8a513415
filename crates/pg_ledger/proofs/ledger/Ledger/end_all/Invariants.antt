use Rattle.std.proofs.Common.{◌≡◌}
use Rattle.pg_ledger.proofs.ledger.Ledger.end_all.Given as goal

-- it is told of the same
abbrev pub invariant-loop-place : goal.invariant-loop-place
invariant-loop-place l =
    (l.self.account ≡ l.fn.self.account) × (l.self.creation ≡ l.fn.self.creation)
