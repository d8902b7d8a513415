use Rattle.link_frames.proofs
use proofs.Words.{bodies_of, SplitsLink, subst, sym}
use proofs.LinkLemmas.{one_link_reading, read_from_empty}
use Rattle.link_frames.proofs.laws.any_cut.Goals as goal

pub returns-clause-only : goal.returns-clause-only
returns-clause-only c = one_link_reading

pub returns-clause-cut : goal.returns-clause-cut
returns-clause-cut c = λ calls others rest last a b same.
    one_link_reading _ (bodies_of calls) (bodies_of others) rest last
    (read_from_empty calls rest a)
    (subst (λ stream. SplitsLink stream (bodies_of others) last) (sym same)
    (read_from_empty others last b))
