use Rattle.scope_core.proofs
use proofs.Words.{same}
use proofs.Kept.{Forgetting}
use proofs.listings.Listings.forget_rows.Given as goal

-- once the lists of the groups to come are forgotten too, those of all are
abbrev pub invariant-loop-group : goal.invariant-loop-group
invariant-loop-group l =
    Forgetting (λ g e. same e.0 g) l.initial.group-iterator l.group-iterator l.fn.self l.self
