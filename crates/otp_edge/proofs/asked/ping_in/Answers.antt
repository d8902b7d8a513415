use Rattle.otp_edge.proofs.Words.{ap, ◌++◌, ◌∙◌}
use Rattle.std.specs.Prelude.{codes}
use Rattle.external_terms.specs.Values.{tuple_head}
use Rattle.otp_edge.specs.PgMessages.{headed}
use Rattle.otp_edge.proofs.asked.ping_in.Goals as goal

pub returns-in_err-rest-clause-only : goal.returns-in_err-rest-clause-only
returns-in_err-rest-clause-only c = λ from tag node is. absurd (c.in_err-rest.ensures.only
    (tuple_head 2 ++ (from ++ (tag ++ headed 2 (codes "is_auth") node))) is.bytes)

pub returns-in_err-node-clause-only : goal.returns-in_err-node-clause-only
returns-in_err-node-clause-only c = λ from tag node is.
    let asked = headed 2 (codes "is_auth") node in
    let head = c.in_ok-rest.ensures.only (tuple_head 2 ++ (from ++ (tag ++ asked))) is.bytes in
    let pair = c.in_ok-rest-2.ensures.only (from ++ (tag ++ asked)) head in
    let first = c.in_ok-from.ensures.only from (tag ++ asked) is.from_term pair in
    let second = c.in_ok-tag.ensures.only tag asked is.tag_term first.1 in
    absurd (c.in_err-node.ensures.only node second.1)

pub returns-then-is_term-clause-found : goal.returns-then-is_term-clause-found
returns-then-is_term-clause-found c = (
  c.in_ok-node.node.now,
  record {
    from_term = c.in_ok-from.ensures.found.0;
    tag_term = c.in_ok-tag.ensures.found.0;
    node_term = c.is_term.ensures.value.0 c.if-is_term.true;
    bytes = c.in_ok-rest.ensures.found ∙ ap (λ l. headed 3 (codes "$gen_call") l)
        (c.in_ok-rest-2.ensures.found ∙ ap (λ l. tuple_head 2 ++ l)
        (c.in_ok-from.ensures.found.1 ∙ ap (λ l. c.in_ok-from.from.now ++ l)
        (c.in_ok-tag.ensures.found.1 ∙ ap (λ l. c.in_ok-tag.tag.now ++ l)
        c.in_ok-node.ensures.found)));
  },
)
