use Rattle.otp_edge.proofs
use proofs.Words.{ap, append-nil, false, length, List, sym, true, ℕ, [], ◌==◌, ◌∙◌, ◌≡◌}
use Rattle.otp_edge.proofs.body.message_at.Goals as goal

pub returns-in_err-message-clause-only : goal.returns-in_err-message-clause-only
returns-in_err-message-clause-only c = λ message is whole.
    absurd (c.in_err-message.ensures.only message [] is
    (c.in_ok-rest.ensures.only message whole ∙ sym (append-nil message)))

pub returns-else-is_empty-clause-only : goal.returns-else-is_empty-clause-only
returns-else-is_empty-clause-only c = λ message is whole.
    let same = c.in_ok-message.ensures.only message [] is
    (c.in_ok-rest.ensures.only message whole ∙ sym (append-nil message)) in
    let bad : false ≡ true = c.if-is_empty.ensures
    ∙ ap (λ (xs : List ℕ). length xs == 0) same.1 in absurd (cc bad)
