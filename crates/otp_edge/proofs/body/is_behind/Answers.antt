use Rattle.otp_edge.proofs
use proofs.Words.{Decides-eqb, nil_from_length, sym, ◌∙◌}
use Rattle.std.proofs.Common.{inl}
use proofs.BodyLemmas.{behind_empty}
use Rattle.otp_edge.proofs.body.is_behind.Goals as goal

pub returns-in-None : goal.returns-in-None
returns-in-None c = (
  λ empty. inl (nil_from_length c.args.bytes.now
      ((Decides-eqb _ 0).0 (sym c.is_empty.ensures ∙ empty))),
  λ is. behind_empty c.args.bytes.now c.is_empty.result c.is_empty.ensures c.in-None.ensures.only
      is,
)
