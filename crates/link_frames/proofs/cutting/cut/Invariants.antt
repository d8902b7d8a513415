use Rattle.link_frames.specs
use Rattle.dist_types.specs.Listing.{max_rows}
use Rattle.std.specs.Prelude.{All, length, map, ◌*◌, ◌++◌, ◌+◌, ◌-◌, ◌≡◌, ◌≤◌}
use specs.Parts.{before_last, HasSome, message2_bytes, parts_from}
use specs.Stream.{max_body}
use Rattle.link_frames.proofs.cutting.cut.Given as goal

abbrev pub invariant-loop-rest : goal.invariant-loop-rest
invariant-loop-rest l = record {
  done : l.bodies.items ++ map message2_bytes
      (parts_from l.kind l.scope l.number (before_last l.rest) l.rest) ≡ map message2_bytes
      (parts_from l.kind l.scope 1 (before_last l.rows) l.rows);
  from_one : 1 ≤ l.number;
  left : (l.number - 1) * max_rows + length l.rest ≡ length l.rows;
  some : HasSome l.kind l.rest;
  short : All (λ body. length body ≤ max_body) l.bodies.items;
}

abbrev pub decreases-loop-rest : goal.decreases-loop-rest
decreases-loop-rest l = length l.rest
