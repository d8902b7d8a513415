use Rattle.external_terms.proofs
use proofs.ValueLemmas.{atom_term, binary_term, list_term, nil_term, numbers_term, process_term}
use proofs.ValueLemmas.{reference_term, small_integer_term, tuple_term}
use Rattle.external_terms.proofs.laws.values_are_terms.Goals as goal

pub returns-clause-small_integer : goal.returns-clause-small_integer
returns-clause-small_integer c = λ n. small_integer_term n

pub returns-clause-atom : goal.returns-clause-atom
returns-clause-atom c = λ text fits. atom_term text fits

pub returns-clause-process : goal.returns-clause-process
returns-clause-process c = λ p fits. process_term p fits

pub returns-clause-reference : goal.returns-clause-reference
returns-clause-reference c = λ r fits. reference_term r fits

pub returns-clause-tuple : goal.returns-clause-tuple
returns-clause-tuple c = λ arity bytes fits are. tuple_term arity bytes fits are

pub returns-clause-list : goal.returns-clause-list
returns-clause-list c = λ count bytes fits are. list_term count bytes fits are

pub returns-clause-nil : goal.returns-clause-nil
returns-clause-nil c = nil_term

pub returns-clause-numbers : goal.returns-clause-numbers
returns-clause-numbers c = λ numbers fits. numbers_term numbers fits

pub returns-clause-binary : goal.returns-clause-binary
returns-clause-binary c = λ binary fits. binary_term binary fits
