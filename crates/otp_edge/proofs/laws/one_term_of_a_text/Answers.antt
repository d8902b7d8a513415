use Rattle.otp_edge.proofs
use proofs.Words.{sym, ◌∙◌}
use proofs.NamedLemmas.{only_named, some_same}
use Rattle.otp_edge.proofs.laws.one_term_of_a_text.Goals as goal

pub returns-clause-terms : goal.returns-clause-terms
returns-clause-terms c = λ group s t first second.
    some_same s t (sym (only_named s group first) ∙ only_named t group second)
