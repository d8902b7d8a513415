use Rattle.policy_audit.proofs
use proofs.Staged.{opens-now, ups-now}
use proofs.Whole.{name-up-is-admitted}
use Rattle.policy_audit.proofs.laws.up_by_events.Goals as goal

pub returns-clause-up : goal.returns-clause-up
returns-clause-up c = λ h legal l. ups-now h.opening h.entries legal l

pub returns-clause-open : goal.returns-clause-open
returns-clause-open c = λ h legal l. opens-now h.opening h.entries legal l

pub returns-clause-named : goal.returns-clause-named
returns-clause-named c = name-up-is-admitted
