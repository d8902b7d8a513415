use Rattle.std.proofs.Common.{◌++◌, ◌≡◌}
use Rattle.pg_settings.specs.Settings.{cookies_told, names_told}
use Rattle.pg_settings.proofs.settings.given.Given as goal

abbrev pub invariant-loop-peer : goal.invariant-loop-peer
invariant-loop-peer l =
    l.told.items ≡ names_told l.fn.allowed.items ++ cookies_told l.yielded
