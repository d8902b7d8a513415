use Rattle.otp_edge.proofs.Words.{take, ◌++◌, ◌≡◌}
use Rattle.otp_edge.specs.PgMessages.{rows_of_text}
use Rattle.otp_edge.proofs.rows.push_rows.Given as goal

abbrev pub invariant-loop-pid : goal.invariant-loop-pid
invariant-loop-pid l =
    l.rows.items ≡ l.fn.rows.items ++ rows_of_text (take l.pid-index l.pids) l.group
