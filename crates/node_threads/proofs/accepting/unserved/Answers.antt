use Rattle.node_threads.proofs
use proofs.Pairs.{none_served}
use proofs.Drawn.{none_drawn}
use Rattle.node_threads.proofs.accepting.unserved.Goals as goal

pub returns-clause-served : goal.returns-clause-served
returns-clause-served c = none_served c.args.pairs.items

pub returns-clause-drawn : goal.returns-clause-drawn
returns-clause-drawn c = λ stream. none_drawn c.args.pairs.items stream
