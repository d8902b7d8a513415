use Rattle.std.proofs.Common.{take, ◌≡◌}
use Rattle.pg_settings.proofs.settings.names_of.Given as goal

abbrev pub invariant-loop-index : goal.invariant-loop-index
invariant-loop-index l = l.names.items ≡ take l.index l.fn.admission.allowed
