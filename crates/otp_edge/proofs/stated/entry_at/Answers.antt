use Rattle.otp_edge.proofs
use proofs.Words.{listed, pid_bytes, sym, ◌++◌, ◌∙◌}
use proofs.FirstLemmas.{stated_first, stated_parts}
use proofs.LackLemmas.{lack_of, of_none, of_same}
use Rattle.otp_edge.proofs.stated.entry_at.Goals as goal

pub returns-in_default-clause-only : goal.returns-in_default-clause-only
returns-in_default-clause-only c = λ s later is whole.
    absurd (c.in_default.ensures.only (s.group ++ (listed pid_bytes s.pids ++ later))
    (whole ∙ stated_parts s later))

pub returns-in_err-group-clause-only : goal.returns-in_err-group-clause-only
returns-in_err-group-clause-only c = λ s later is whole.
    let rest = c.in-Some.ensures.only (s.group ++ (listed pid_bytes s.pids ++ later))
    (whole ∙ stated_parts s later) in
    lack_of _ c.from_residual.result _ c.from_residual.ensures.1 (of_none _ _
    (c.in_err-group.ensures.only s.group (listed pid_bytes s.pids ++ later) is.group rest)
    c.in_err-group.ensures.refused)

pub returns-in_err-pids-clause-only : goal.returns-in_err-pids-clause-only
returns-in_err-pids-clause-only c = λ s later is whole.
    let rest = c.in-Some.ensures.only (s.group ++ (listed pid_bytes s.pids ++ later))
    (whole ∙ stated_parts s later) in
    let group = c.in_ok-group.ensures.found.only s.group (listed pid_bytes s.pids ++ later)
    is.group rest in
    let passed = c.from_residual-in_err-pids in
    lack_of _ passed.result _ passed.ensures.1 (of_none _ _
    (c.in_err-pids.ensures.only s.pids later is.pids (sym group.1)) c.in_err-pids.ensures.refused)

pub returns-clause-found : goal.returns-clause-found
returns-clause-found c = (
  record { group = c.in_ok-group.group.now; pids = c.in_ok-pids.pids.items },
  cc (c.in_ok-push_rows.ensures.ok),
  stated_first c.args.bytes.now c.in-Some.rest.now c.in_ok-group.group.now c.in_ok-group.rest.now
      c.in_ok-pids.pids.items c.in_ok-pids.rest.now c.in-Some.ensures.found
      c.in_ok-group.ensures.found c.in_ok-pids.ensures.found,
)

pub returns-in_err-push_rows-clause-only : goal.returns-in_err-push_rows-clause-only
returns-in_err-push_rows-clause-only c = λ s later is whole.
    let passed = c.from_residual-in_err-push_rows in
    let rest = c.in-Some.ensures.only (s.group ++ (listed pid_bytes s.pids ++ later))
    (whole ∙ stated_parts s later) in
    let group = c.in_ok-group.ensures.found.only s.group (listed pid_bytes s.pids ++ later)
    is.group rest in
    let pids = c.in_ok-pids.ensures.found.only s.pids later is.pids (sym group.1) in
    lack_of _ passed.result _ passed.ensures.1 (of_same _ _ _ (cc (group.0, pids.0))
    c.in_err-push_rows.ensures.refused)
