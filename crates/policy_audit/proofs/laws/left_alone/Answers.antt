use Rattle.policy_audit.proofs
use proofs.Words.{just, sym}
use proofs.ChangeLemmas.{no_change}
use proofs.Effects.{entry_link, entry_rows}
use proofs.Within.{rows_within}
use Rattle.policy_audit.proofs.laws.left_alone.Goals as goal

pub returns-clause-listings : goal.returns-clause-listings
returns-clause-listings c = entry_rows

pub returns-clause-no_change : goal.returns-clause-no_change
returns-clause-no_change c = λ h e q. no_change h (just h e) (λ s g p. sym (entry_rows h e q s g p))

pub returns-clause-within : goal.returns-clause-within
returns-clause-within c = λ h e legal s g p. rows_within h e legal.0 legal.1 s g p

pub returns-clause-links : goal.returns-clause-links
returns-clause-links c = entry_link
