use Rattle.link_frames.proofs
use proofs.Words.{All, flat_map, IsRow, length, row_bytes, take, to_be_bytes, w32, ◌++◌, ◌≡◌}
use Rattle.link_frames.proofs.encoding.put_rows.Given as goal

abbrev pub invariant-loop-row : goal.invariant-loop-row
invariant-loop-row l =
    (l.out.items ≡ l.fn.out.items ++ (to_be_bytes w32 (length l.rows) ++ flat_map row_bytes
    (take l.row-index l.rows))) × All IsRow (take l.row-index l.rows)
