use Rattle.link_frames.proofs.Words.{All, flat_map, IsRow, length, row_bytes, ◌++◌, ◌≡◌}
use Rattle.link_frames.proofs.decoding.rows_of.Given as goal

abbrev pub invariant-loop : goal.invariant-loop
invariant-loop l = record {
  count : length l.rows.items ≡ l.counter;
  each : All IsRow l.rows.items;
  whole : l.bytes ≡ flat_map row_bytes l.rows.items ++ l.rest;
}
