use Rattle.scope_core.proofs
use proofs.Words.{AreCounted, Bool, counted_cmp, drop, how_many, Rises, Row, tally, ◌+◌, ◌≡◌}
use proofs.incoming.counted_in_order.Given as goal

-- those so far rise, and are counted; with the rows to come they are all
abbrev pub invariant-loop-row : goal.invariant-loop-row
invariant-loop-row l = record {
  rises : Rises counted_cmp l.counted.items;
  counted : AreCounted l.counted.items;
  added : (test : Row → Bool)
      → tally test l.counted.items + how_many test (drop l.row-index l.rows) ≡ how_many test l.rows;
}
