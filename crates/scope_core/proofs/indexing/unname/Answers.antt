use Rattle.scope_core.proofs
use proofs.Words.{arith, same_decides}
use proofs.Indexed.{got_named}
use proofs.indexing.unname.Goals as goal

pub returns-clause-own : goal.returns-clause-own
returns-clause-own c = grind (arith, got_named, same_decides)
