use Rattle.handshake_frames.proofs
use Rattle.std.proofs.Common.{subst, sym}
use Rattle.std.specs.Int.{w16}
use Rattle.handshake_frames.specs.Stream.{bodies_of, Splits}
use proofs.StreamLemmas.{goes_on, one_reading, read_from_empty, reads_16}
use proofs.laws.any_cut.Goals as goal

pub returns-clause-step : goal.returns-clause-step
returns-clause-step c = goes_on w16 reads_16

pub returns-clause-run : goal.returns-clause-run
returns-clause-run c = read_from_empty w16 reads_16

pub returns-clause-only : goal.returns-clause-only
returns-clause-only c = one_reading w16 reads_16

pub returns-clause-cut : goal.returns-clause-cut
returns-clause-cut c = λ calls others rest last a b same.
    one_reading w16 reads_16 _ (bodies_of calls) (bodies_of others) rest last
    (read_from_empty w16 reads_16 calls rest a)
    (subst (λ stream. Splits w16 stream (bodies_of others) last) (sym same)
    (read_from_empty w16 reads_16 others last b))
