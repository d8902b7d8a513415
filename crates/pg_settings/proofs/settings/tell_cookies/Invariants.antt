use Rattle.std.proofs.Common.{take, ◌++◌, ◌≡◌}
use Rattle.pg_settings.specs.Settings.{cookies_told}
use Rattle.pg_settings.proofs.settings.tell_cookies.Given as goal

abbrev pub invariant-loop-index : goal.invariant-loop-index
invariant-loop-index l =
    l.told.items ≡ l.fn.told.items ++ cookies_told (take l.index l.fn.admission.peers)
