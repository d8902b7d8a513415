use Rattle.frame_laws.proofs
use proofs.Words.{arith}
use proofs.Sources.{frame_at, is_entry, rises}
use Rattle.frame_laws.proofs.laws.sources_rise.Goals as goal

pub returns-clause-within : goal.returns-clause-within
returns-clause-within = grind (arith, frame_at, is_entry)

pub returns-clause-rise : goal.returns-clause-rise
returns-clause-rise = grind (arith, frame_at, rises)
