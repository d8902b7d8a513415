use Rattle.link_frames.proofs
use proofs.Words.{ap, counted, sym, text_bytes, w16, ◌++◌, ◌∙◌}
use proofs.DecodingLemmas.{found_not_refused, found_so, read_so}
use proofs.ReadingLemmas.{row_parts}
use Rattle.link_frames.proofs.fields.row_at.Goals as goal

pub returns-in_err-creation-clause-only : goal.returns-in_err-creation-clause-only
returns-in_err-creation-clause-only c = λ row rest is bytes.
    let group = c.in_ok-group.ensures.only row.group _ is.group (bytes ∙ row_parts row rest) in
    let node = c.in_ok-node.ensures.only row.pid.node _ is.node group.1 in
    absurd (found_not_refused _ _ _ _ (c.numbers_at.ensures.only row.pid.creation row.pid.number
    rest is.creation is.number node.1) (sym c.ok_or.ensures.value ∙ c.in_err-creation.was))

pub returns-clause-found : goal.returns-clause-found
returns-clause-found c =
    let group = c.in_ok-group.ensures.found in
    let node = c.in_ok-node.ensures.found in
    let numbers = read_so _ _ _ _ c.numbers_at.ensures.found
    (sym c.ok_or.ensures.value ∙ c.in_ok-creation.was) in (
      record { group = group.0; node = node.0; creation = numbers.0; number = numbers.1 },
      group.1 ∙ ap (λ rest. text_bytes c.in_ok-group.group ++ rest)
          (node.1 ∙ ap (λ rest. counted w16 c.in_ok-node.node ++ rest) numbers.2)
          ∙ sym (row_parts _ c.in_ok-creation.rest.now),
    )

pub returns-clause-only : goal.returns-clause-only
returns-clause-only c = λ row rest is bytes.
    let group = c.in_ok-group.ensures.only row.group _ is.group (bytes ∙ row_parts row rest) in
    let node = c.in_ok-node.ensures.only row.pid.node _ is.node group.1 in
    let numbers = found_so _ _ _ _ (c.numbers_at.ensures.only row.pid.creation row.pid.number rest
    is.creation is.number node.1) (sym c.ok_or.ensures.value ∙ c.in_ok-creation.was) in (
      λ i.
          record {
            group = group.0 i;
            pid = record { node = node.0 i; creation = numbers.0 i; number = numbers.1 i };
          },
      numbers.2,
    )
