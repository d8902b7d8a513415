use Rattle.dist_types.proofs
use proofs.LimitLemmas.{names_compute, texts_compute}
use proofs.laws.limits_compute.Goals as goal

pub returns-clause-texts : goal.returns-clause-texts
returns-clause-texts c = texts_compute

pub returns-clause-names : goal.returns-clause-names
returns-clause-names c = names_compute
