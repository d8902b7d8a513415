use Rattle.otp_edge.proofs
use proofs.Words.{length, list_front, pid_bytes, Row}
use proofs.PutLemmas.{more_put}
use Rattle.otp_edge.proofs.spelling.put_pids.Goals as goal

pub loop-row-preserved : goal.loop-row-preserved
loop-row-preserved c = more_put pid_bytes (λ (r : Row). r.pid) c.args.rows.now
    c.loop-row.row-index c.row-item.result c.args.out.now.items c.loop-row.out.items
    c.put_member.new.out.items (list_front (length c.args.rows.now)) c.loop-row-test.true
    c.row-item.is c.loop-row.invariant c.in_ok-put_member.ensures
