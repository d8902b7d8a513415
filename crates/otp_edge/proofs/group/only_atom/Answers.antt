use Rattle.otp_edge.proofs.Words.{append-nil, sym, [], ◌∙◌}
use Rattle.external_terms.specs.Values.{atom_bytes}
use Rattle.otp_edge.proofs.group.only_atom.Goals as goal

pub returns-in_err-text-clause-only : goal.returns-in_err-text-clause-only
returns-in_err-text-clause-only c = λ text whole.
    absurd (c.in_err-text.ensures.only text [] (whole ∙ sym (append-nil (atom_bytes text))))
