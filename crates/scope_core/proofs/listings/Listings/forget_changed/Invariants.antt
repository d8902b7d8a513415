use Rattle.scope_core.proofs
use proofs.Words.{Forgets, is_named, take}
use proofs.listings.Listings.forget_changed.Given as goal

-- no list of the groups so far is kept
abbrev pub invariant-loop-change : goal.invariant-loop-change
invariant-loop-change l = Forgets (λ g. is_named g (take l.change-index l.changes)) l.fn.self l.self
