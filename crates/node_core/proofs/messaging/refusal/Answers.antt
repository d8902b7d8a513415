use Rattle.node_core.proofs.Words.{arith}
use Rattle.node_core.proofs.messaging.refusal.Goals as goal

pub returns-then-is_unheard : goal.returns-then-is_unheard
returns-then-is_unheard c = rw c.in-Part.is (grind (arith, c.is_unheard.ensures))

pub returns-then-not-is_next : goal.returns-then-not-is_next
returns-then-not-is_next c =
    rw c.in-Part.is (grind (arith, c.is_unheard.ensures, c.is_next.ensures))

pub returns-then-not-are_of_peer : goal.returns-then-not-are_of_peer
returns-then-not-are_of_peer c =
    rw c.in-Part.is (grind (arith, c.is_unheard.ensures, c.is_next.ensures, c.are_of_peer.ensures))

pub returns : goal.returns
returns c =
    rw c.in-Part.is (grind (arith, c.is_unheard.ensures, c.is_next.ensures, c.are_of_peer.ensures))
