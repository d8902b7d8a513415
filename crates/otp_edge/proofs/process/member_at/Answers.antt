use Rattle.otp_edge.proofs
use proofs.Words.{ap, process_of, sym, ◌++◌, ◌∙◌}
use Rattle.external_terms.specs.Values.{process_bytes}
use proofs.ProcessLemmas.{one_pid, pid_fits}
use proofs.LackLemmas.{lack}
use Rattle.otp_edge.proofs.process.member_at.Goals as goal

pub returns-in_default-clause-only : goal.returns-in_default-clause-only
returns-in_default-clause-only c = λ pid rest is whole.
    absurd (c.in_default.ensures.only (process_of pid) rest (pid_fits pid is) whole)

pub returns-in_err-pid-clause-only : goal.returns-in_err-pid-clause-only
returns-in_err-pid-clause-only c = λ pid rest is whole.
    let read = c.in-Some.ensures.only (process_of pid) rest (pid_fits pid is) whole in
    lack c.from_residual.result _ c.from_residual.ensures.1
    (c.in_err-pid.ensures.only pid is read.0)

pub returns-clause-found : goal.returns-clause-found
returns-clause-found c = let found = c.in_ok-pid.ensures.found in record {
  within = found.0;
  bytes = c.in-Some.ensures.found
      ∙ ap (λ p. process_bytes p ++ c.in-Some.rest.now) found.1;
  only = λ pid later is whole.
      let read = c.in-Some.ensures.only (process_of pid) later (pid_fits pid is) whole in
      (one_pid pid c.in_ok-pid.pid (sym read.0 ∙ found.1), sym read.1);
}
