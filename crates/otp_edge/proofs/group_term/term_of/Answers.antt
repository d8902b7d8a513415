use Rattle.otp_edge.proofs
use Rattle.otp_edge.specs
use proofs.Words.{ap, false, subst, sym, true, ◌∙◌, ◌≡◌}
use specs.Groups.{IsTermOf}
use specs.GroupTerms.{term_named}
use proofs.NamedLemmas.{only_named, some_same}
use Rattle.otp_edge.proofs.group_term.term_of.Goals as goal

pub returns-in_default-clause-only : goal.returns-in_default-clause-only
returns-in_default-clause-only c = λ term is.
    let named = rw c.in_default.is at (c.in_ok-term.ensures
    ∙ ap term_named c.as_bytes.ensures.value ∙ only_named term c.args.group.now is) in
    absurd (cc named)

pub returns-then-branch-clause-found : goal.returns-then-branch-clause-found
returns-then-branch-clause-found c =
    rw c.deref.ensures.value at (c.in_ok-has_text.ensures.has.0 c.if-branch.true)

pub returns-then-branch-clause-only : goal.returns-then-branch-clause-only
returns-then-branch-clause-only c = λ term is.
    let named = rw c.in-Some.is at (c.in_ok-term.ensures
    ∙ ap term_named c.as_bytes.ensures.value ∙ only_named term c.args.group.now is) in
    some_same c.in-Some.term.items term named

pub returns-else-branch-clause-only : goal.returns-else-branch-clause-only
returns-else-branch-clause-only c = λ term is.
    let named = rw c.in-Some.is at (c.in_ok-term.ensures
    ∙ ap term_named c.as_bytes.ensures.value ∙ only_named term c.args.group.now is) in
    let same = c.deref.ensures.value ∙ some_same c.in-Some.term.items term named in
    let yes : true ≡ false = sym (c.in_ok-has_text.ensures.has.1
    (subst (λ t. IsTermOf t c.args.group.now) (sym same) is)) ∙ c.if-branch.false in
    absurd (cc yes)
