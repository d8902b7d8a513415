use Rattle.scope_core.proofs
use proofs.Words.{IsPermutation-trans}
use proofs.incoming.copies_in_order.Goals as goal

pub returns : goal.returns
returns c = rw (← c.in_ok-copies.ensures) (IsPermutation-trans _ _ _
    c.sort_unstable_by_key.ensures.permutation c.sort_by.ensures.permutation)
