use Rattle.admission_rules.proofs
use proofs.NameLists.{allowed_after}
use proofs.laws.names_after.Goals as goal

pub returns-clause-names : goal.returns-clause-names
returns-clause-names c = λ rules names name. allowed_after rules.allowed names name
