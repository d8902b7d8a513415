use Rattle.external_terms.proofs.TermLemmas.{one_end}
use Rattle.external_terms.proofs.laws.one_end.Goals as goal

pub returns : goal.returns
returns c = λ count terms others rest later is are same. one_end count terms others rest later is
    are same
