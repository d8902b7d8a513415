use Rattle.node_core.proofs
use Rattle.node_core.specs
use proofs.Words.{ap, arith, History, List, None, Option, option_map, running_scopes, Some, ℕ, ◌∙◌}
use proofs.Words.{◌≡◌}
use Rattle.std.proofs.Common.{slice_get}
use Rattle.std.proofs.lemmas.Grind.{common_steps}
use Rattle.std.proofs.lemmas.Option.{gets, slice_get-map, slice_get_past}
use specs.declared.running.Running.{Running}
use specs.ScopeFacts.{scope_words, ScopesFollow}
use proofs.node.NodeCore.scope.Goals as goal

-- the name of the scope at a place
named : (h : History) (scopes : List Running) (k : ℕ) → ScopesFollow (scope_words h) scopes
    → {found : Option Running} → slice_get scopes k ≡ found
    → slice_get (running_scopes h) k ≡ option_map (λ r. r.scope) found
named h scopes k follow at =
    rw (← follow.running)
    (slice_get-map (λ (r : Running). r.scope) scopes k ∙ ap (option_map (λ r. r.scope)) at)

pub returns : goal.returns
returns c =
    let scopes = c.self.inside.kept.scopes.items in
    let at : slice_get scopes c.args.index ≡ Some c.in_ok-running.running.now =
    grind (arith, common_steps, gets) in
    let name = named c.args.self.now.history scopes c.args.index
    (rw (← c.self.view_is) c.self.invariant.follows.scopes) at in
    grind (arith, name)

pub returns-in_err-running : goal.returns-in_err-running
returns-in_err-running c =
    let scopes = c.self.inside.kept.scopes.items in
    let at : slice_get scopes c.args.index ≡ None =
    slice_get_past scopes c.args.index (grind (arith, common_steps)) in
    let name = named c.args.self.now.history scopes c.args.index
    (rw (← c.self.view_is) c.self.invariant.follows.scopes) at in
    grind (arith, common_steps, name)
