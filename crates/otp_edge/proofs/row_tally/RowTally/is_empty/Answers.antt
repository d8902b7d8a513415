use Rattle.otp_edge.proofs
use proofs.Words.{arith}
use proofs.RowTallies.{some_row}
use Rattle.otp_edge.proofs.row_tally.RowTally.is_empty.Goals as goal

pub returns-clause-some : goal.returns-clause-some
returns-clause-some c = λ no.
    let entries = c.self.inside.counts.entries in
    rw (← c.self.view_is) (some_row entries c.self.invariant
    (λ none. absurd (grind (arith, c.is_empty.ensures, none, no))))
