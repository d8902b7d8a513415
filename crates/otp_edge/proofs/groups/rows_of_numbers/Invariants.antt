use Rattle.otp_edge.proofs.Words.{map, take, ◌≡◌}
use Rattle.external_terms.specs.Values.{small_integer_bytes}
use Rattle.otp_edge.specs.PgMessages.{rows_left}
use Rattle.otp_edge.proofs.groups.rows_of_numbers.Given as goal

abbrev pub invariant-loop-number : goal.invariant-loop-number
invariant-loop-number l =
    l.rows.items ≡ rows_left l.pids (map small_integer_bytes (take l.number-index l.numbers))
