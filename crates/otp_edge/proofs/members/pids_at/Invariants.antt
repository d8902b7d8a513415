use Rattle.otp_edge.proofs.Words.{Front, IsPid, length, pid_bytes, ◌≡◌}
use Rattle.otp_edge.proofs.members.pids_at.Given as goal

abbrev pub invariant-loop : goal.invariant-loop
invariant-loop l = record {
  count : length l.pids.items ≡ l.counter;
  front : Front pid_bytes IsPid l.bytes l.pids.items l.rest;
}
