use Rattle.otp_edge.specs
use Rattle.otp_edge.proofs.Words.{flat_map, length, list_front, map, take, ◌++◌, ◌≡◌}
use specs.PgMessages.{stated_bytes}
use specs.Telling.{stated_of}
use Rattle.otp_edge.proofs.spelling.put_all_stated.Given as goal

abbrev pub invariant-loop-one : goal.invariant-loop-one
invariant-loop-one l =
    l.out.items ≡ l.fn.out.items ++ (list_front (length l.told) ++ flat_map stated_bytes
    (map stated_of (take l.one-index l.told)))
