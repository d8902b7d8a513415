use Rattle.node_threads.proofs.Whole.{all_is_own, own_has_all}
use Rattle.node_threads.proofs.laws.whole_passes.Goals as goal

pub returns : goal.returns
returns c = λ room p whole. (own_has_all room p whole, all_is_own room p whole)
