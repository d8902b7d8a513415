use Rattle.pg_world.proofs
use proofs.Words.{ListMoments, ListNow, subst}
use proofs.Moments.{lists_moments, lists_now}
use Rattle.pg_world.proofs.world.World.node.Goals as goal

pub returns-clause-moments : goal.returns-clause-moments
returns-clause-moments c = subst ListMoments c.self.view_is (lists_moments _ c.self.invariant)

pub returns-clause-settled : goal.returns-clause-settled
returns-clause-settled c = subst ListNow c.self.view_is (lists_now _ c.self.invariant)
