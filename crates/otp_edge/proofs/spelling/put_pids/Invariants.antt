use Rattle.otp_edge.proofs.Words.{flat_map, length, list_front, pid_bytes, take, ◌++◌, ◌≡◌}
use Rattle.otp_edge.specs.Telling.{pids_of}
use Rattle.otp_edge.proofs.spelling.put_pids.Given as goal

abbrev pub invariant-loop-row : goal.invariant-loop-row
invariant-loop-row l =
    l.out.items ≡ l.fn.out.items ++ (list_front (length l.rows) ++ flat_map pid_bytes (pids_of
    (take l.row-index l.rows)))
