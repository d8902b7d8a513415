use Rattle.std.proofs.Common.{take, ◌++◌, ◌≡◌}
use Rattle.policy_audit.specs.Own.{running_scopes}
use Rattle.pg_settings.specs.Settings.{scopes_told}
use Rattle.pg_settings.proofs.settings.tell_scopes.Given as goal

abbrev pub invariant-loop-index : goal.invariant-loop-index
invariant-loop-index l =
    l.told.items ≡ l.fn.told.items ++ scopes_told (take l.index (running_scopes l.fn.core.history))
