use Rattle.otp_edge.proofs.Words.{Front, length, List, ◌≡◌}
use Rattle.otp_edge.specs.PgMessages.{IsStated, rows_stated, Stated, stated_bytes}
use Rattle.otp_edge.proofs.stated.entries_at.Given as goal

abbrev pub invariant-loop : goal.invariant-loop
invariant-loop l = (ss : List Stated) × (l.rows.items ≡ rows_stated ss) × (length ss ≡ l.counter)
    × Front stated_bytes IsStated l.bytes ss l.rest
