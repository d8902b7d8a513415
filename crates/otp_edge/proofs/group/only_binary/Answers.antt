use Rattle.otp_edge.proofs.Words.{append-nil, sym, [], ◌∙◌}
use Rattle.external_terms.specs.Values.{binary_bytes}
use Rattle.otp_edge.proofs.group.only_binary.Goals as goal

pub returns-in_err-bytes-clause-only : goal.returns-in_err-bytes-clause-only
returns-in_err-bytes-clause-only c = λ bytes fits whole.
    absurd (c.in_err-bytes.ensures.only bytes [] fits (whole
    ∙ sym (append-nil (binary_bytes bytes))))
