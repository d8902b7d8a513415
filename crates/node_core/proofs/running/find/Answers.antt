use Rattle.node_core.proofs
use proofs.Words.{ap, same, Some, sym, ◌∙◌}
use proofs.Searched.{find_at, find_none}
use proofs.running.find.Goals as goal

pub returns-in-Some : goal.returns-in-Some
returns-in-Some c = ap Some c.index-scopes-place.is
    ∙ sym (find_at (λ r. same r.scope c.args.scope.now) c.args.scopes.now c.in-Some.place
    c.index-scopes-place.result (sym c.place_of.ensures ∙ c.in-Some.is))

pub returns-in-None : goal.returns-in-None
returns-in-None c =
    sym (find_none (λ r. same r.scope c.args.scope.now) c.args.scopes.now
    (sym c.place_of.ensures ∙ c.in-None.is))
