use Rattle.node_threads.proofs.shared.keep.Goals as goal

pub returns-clause-calls : goal.returns-clause-calls
returns-clause-calls c = c.push_reserved.ensures.items
