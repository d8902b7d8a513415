use Rattle.pg_settings.proofs
use Rattle.std.proofs.Common.{ap, sym, ◌++◌, ◌∙◌, [], ◌∷◌}
use Rattle.policy_audit.specs.declared.event.Event.TheVariants.{StartScope}
use Rattle.policy_audit.specs.Own.{running_scopes}
use proofs.Taken.{said_more}
use Rattle.pg_settings.proofs.settings.tell_scopes.Goals as goal

pub loop-index-preserved : goal.loop-index-preserved
loop-index-preserved c =
    said_more StartScope (running_scopes c.args.core.now.history) c.loop-index.index
    c.in-Some.scope.now c.args.told.now.items c.loop-index.told.items c.push.new.self.items
    (sym c.in-Some.ensures) c.loop-index.invariant
    (c.in_ok-push.ensures.items
    ∙ ap (λ s. c.loop-index.told.items ++ StartScope s ∷ []) c.in_ok-try_clone.ensures)
