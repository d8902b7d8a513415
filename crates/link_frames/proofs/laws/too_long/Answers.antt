use Rattle.link_frames.proofs
use proofs.Words.{bodies_of, inl, inr, SplitsLink, stream_of, subst}
use proofs.LinkLemmas.{fed_not_too_long, read_from_empty, too_long_for_all}
use Rattle.link_frames.proofs.laws.too_long.Goals as goal

pub returns-clause-only : goal.returns-clause-only
returns-clause-only c = λ old piece used body new feeds long. elim long [
  | inl marked ↦ absurd (cc (marked))
  | inr comes ↦ fed_not_too_long old.rest piece used body new.rest feeds.fed comes
]

pub returns-clause-cut : goal.returns-clause-cut
returns-clause-cut c = λ calls others rest last piece later fed comes others_fed same.
    too_long_for_all (stream_of calls) piece later (bodies_of calls) (bodies_of others) rest last
    (read_from_empty calls rest fed)
    comes
    (subst (λ stream. SplitsLink stream (bodies_of others) last) same
    (read_from_empty others last others_fed))
