use Rattle.otp_edge.proofs.Words.{Front, length, List, ℕ, ◌≡◌}
use Rattle.external_terms.specs.Terms.{SpellsTerm}
use Rattle.otp_edge.specs.PgMessages.{rows_left}
use Rattle.otp_edge.proofs.groups.rows_at.Given as goal

abbrev pub invariant-loop : goal.invariant-loop
invariant-loop l = (gs : List (List ℕ)) × (l.rows.items ≡ rows_left l.pids gs)
    × (length gs ≡ l.counter) × Front (λ g. g) SpellsTerm l.bytes gs l.rest
