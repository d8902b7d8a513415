use Rattle.otp_edge.proofs
use proofs.Words.{ap, arith, Front, IsPid, length, length_push, Pid, pid_bytes, subst, sym, ◌+◌}
use proofs.Words.{◌∙◌}
use proofs.ListLemmas.{left_bytes, none_read, one_more}
use proofs.LackLemmas.{lack}
use Rattle.otp_edge.proofs.members.pids_at.Goals as goal

pub loop-init : goal.loop-init
loop-init c = let none = c.in_ok-pids.ensures.items in record {
  count = ap (length {A = Pid}) none;
  front = subst (λ pids. Front pid_bytes IsPid c.args.bytes.now pids c.args.bytes.now) (sym none)
      (none_read pid_bytes IsPid c.args.bytes.now);
}

pub returns-in_err-pid-clause-only : goal.returns-in_err-pid-clause-only
returns-in_err-pid-clause-only c = λ pids later long each whole.
    let next = left_bytes pid_bytes IsPid c.args.bytes.now c.loop.pids.items c.loop.rest.now
    c.loop.invariant.front pids later (omega arith) each whole in
    lack c.from_residual-in_err-pid.result _ c.from_residual-in_err-pid.ensures.1
    (c.in_err-pid.ensures.only next.0 next.2.0 next.1 next.2.1)

pub loop-preserved : goal.loop-preserved
loop-preserved c =
    let pids = c.loop.pids.items in
    let kept = c.loop.invariant in
    let pushed = c.in_ok-push.ensures.items in
    record {
      count = ap (length {A = Pid}) pushed ∙ length_push pids c.in_ok-pid.pid
          ∙ ap (λ n. n + 1) kept.count;
      front = one_more pid_bytes IsPid c.args.bytes.now pids c.loop.rest.now kept.front
          c.in_ok-pid.pid c.in_ok-pid.behind.now c.in_ok-pid.ensures.found _ pushed;
    }
