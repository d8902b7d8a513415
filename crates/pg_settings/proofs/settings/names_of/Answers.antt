use Rattle.pg_settings.proofs
use Rattle.std.proofs.Common.{arith}
use proofs.Taken.{take_more}
use Rattle.pg_settings.proofs.settings.names_of.Goals as goal

pub loop-index-preserved : goal.loop-index-preserved
loop-index-preserved c = grind (
  arith,
  c.loop-index.invariant,
  c.allowed.ensures.value,
  c.in_ok-try_clone.ensures,
  c.in_ok-push.ensures.items,
  take_more c.args.admission.now.allowed c.loop-index.index c.in-Some.name.now,
)
