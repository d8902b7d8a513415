use Rattle.scope_core.proofs
use proofs.Words.{texts_total}
use proofs.GroupNodes.{name_found}
use proofs.Searches.{gap_in}
use proofs.group_nodes.place_of.Goals as goal

pub returns-clause-found : goal.returns-clause-found
returns-clause-found c = name_found _ _ _ c.binary_search.ensures.position

pub returns-clause-gap : goal.returns-clause-gap
returns-clause-gap c = gap_in texts_total (λ n. n) _ _ _ c.requires c.binary_search.ensures.position
