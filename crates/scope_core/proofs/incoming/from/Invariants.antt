use Rattle.scope_core.proofs
use proofs.Words.{counted_cmp, is_row, length, Less, Rises, Row, row_cmp, tally, ◌≡◌, ◌≢◌}
use proofs.incoming.from.Given as goal

-- those left rise, and rows that aren't lower are counted among them as among all
abbrev pub invariant-loop-first : goal.invariant-loop-first
invariant-loop-first l = record {
  rises : Rises counted_cmp l.rest;
  low : (r : Row) → row_cmp r l.row ≢ Less
      → tally (is_row r.group r.pid) l.rest ≡ tally (is_row r.group r.pid) l.rows;
}

abbrev pub decreases-loop-first : goal.decreases-loop-first
decreases-loop-first l = length l.rest
