use Rattle.std.proofs.Common.{◌≡◌}
use Rattle.pg_ledger.specs.Following.{NotesBut}
use Rattle.pg_ledger.proofs.ledger.Ledger.look_at_all.Given as goal

abbrev pub invariant-loop-entry : goal.invariant-loop-entry
invariant-loop-entry g l =
    NotesBut l.entry-iterator l.fn.entries l.fn.self.account l.self.account
    × (l.self.creation ≡ l.fn.self.creation)
