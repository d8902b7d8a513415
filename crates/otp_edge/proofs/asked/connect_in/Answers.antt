use Rattle.otp_edge.proofs.Words.{◌++◌}
use Rattle.std.specs.Prelude.{codes}
use Rattle.external_terms.specs.Values.{atom_bytes, tuple_head}
use Rattle.otp_edge.proofs.asked.connect_in.Goals as goal

pub returns-in_err-rest-clause-only : goal.returns-in_err-rest-clause-only
returns-in_err-rest-clause-only c = λ arity rest whole. absurd (c.in_err-rest.ensures.only
    (tuple_head arity ++ (atom_bytes (codes "init_connect") ++ rest)) whole)
