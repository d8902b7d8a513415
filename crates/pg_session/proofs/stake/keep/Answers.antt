use Rattle.std.proofs.Common.{nat_eq, not, rules}
use Rattle.std.proofs.lemmas.Fn.{filter_same}
use Rattle.pg_session.proofs.stake.keep.Goals as goal

pub returns-in-Done-End-clause-watches : goal.returns-in-Done-End-clause-watches
returns-in-Done-End-clause-watches c =
    rw (c.in-Done-End.is-0, c.in-Done-End.is-1)
    (filter_same _ (λ w. not (nat_eq w.number c.in-Done-End.number)) _ (λ w b f' k. search rules)
    _ _ c.retain.ensures.filtered)
