use Rattle.external_terms.proofs.TermLemmas.{fault_not_found, faults_same}
use Rattle.external_terms.proofs.laws.one_fault.Goals as goal

pub returns-clause-one : goal.returns-clause-one
returns-clause-one c = λ count bytes f g is are. faults_same count bytes f g is are

pub returns-clause-none : goal.returns-clause-none
returns-clause-none c = λ count bytes terms rest f fault is same. fault_not_found count bytes terms
    rest f fault is same
