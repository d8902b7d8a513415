use Rattle.otp_edge.proofs
use proofs.Words.{ap, append-nil, Decides-eqb, length, List, nil_from_length, sym, ℕ, [], ◌==◌, ◌∙◌}
use proofs.BodyLemmas.{whole_term}
use Rattle.otp_edge.proofs.group_term.is_term.Goals as goal

pub returns-in-Some-clause-value : goal.returns-in-Some-clause-value
returns-in-Some-clause-value c = (
  λ empty. whole_term c.args.bytes.now c.in-Some.field-0-0.now c.in-Some.rest.now
      c.in-Some.ensures.found.0 c.in-Some.ensures.found.1
      (nil_from_length c.in-Some.rest.now ((Decides-eqb _ 0).0 (sym c.is_empty.ensures ∙ empty))),
  λ is. c.is_empty.ensures ∙ ap (λ (xs : List ℕ). length xs == 0)
      (c.in-Some.ensures.only c.args.bytes.now [] is (sym (append-nil c.args.bytes.now))).1,
)

pub returns-in-None-clause-value : goal.returns-in-None-clause-value
returns-in-None-clause-value c = (
  λ e. cc e,
  λ is. absurd (c.in-None.ensures.only c.args.bytes.now [] is (sym (append-nil c.args.bytes.now))),
)
