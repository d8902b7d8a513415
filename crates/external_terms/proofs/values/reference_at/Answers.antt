use Rattle.external_terms.proofs
use proofs.Words.{ap, sym, ◌*◌, ◌++◌, ◌∙◌}
use proofs.ValueLemmas.{after_count, after_name, reference_parts}
use Rattle.external_terms.proofs.values.reference_at.Goals as goal

pub returns-in_err-creation-clause-only : goal.returns-in_err-creation-clause-only
returns-in_err-creation-clause-only c = λ r rest fits bytes.
    let kind = c.in_ok-rest.ensures.only _ (bytes ∙ reference_parts r rest) in
    let count = c.in_ok-count.ensures.only r.count (after_count r rest) fits.count kind in
    let node = c.in_ok-node.ensures.only r.node (after_name r rest) count.1 in
    absurd (c.in_err-creation.ensures.only r.creation (r.words ++ rest) fits.creation node.1)

pub returns-in_err-words-clause-only : goal.returns-in_err-words-clause-only
returns-in_err-words-clause-only c = λ r rest fits bytes.
    let kind = c.in_ok-rest.ensures.only _ (bytes ∙ reference_parts r rest) in
    let count = c.in_ok-count.ensures.only r.count (after_count r rest) fits.count kind in
    let node = c.in_ok-node.ensures.only r.node (after_name r rest) count.1 in
    let creation = c.in_ok-creation.ensures.only r.creation (r.words ++ rest) fits.creation node.1
    in
    absurd (c.in_err-words.ensures.only r.words rest (fits.words
    ∙ ap (λ n. 4 * n) (sym count.0)) creation.1)

pub returns-clause-only : goal.returns-clause-only
returns-clause-only c = λ r rest fits bytes.
    let kind = c.in_ok-rest.ensures.only _ (bytes ∙ reference_parts r rest) in
    let count = c.in_ok-count.ensures.only r.count (after_count r rest) fits.count kind in
    let node = c.in_ok-node.ensures.only r.node (after_name r rest) count.1 in
    let creation = c.in_ok-creation.ensures.only r.creation (r.words ++ rest) fits.creation node.1
    in
    let words = c.in_ok-words.ensures.only r.words rest (fits.words
    ∙ ap (λ n. 4 * n) (sym count.0)) creation.1 in (
      λ i. record {
        count = count.0 i;
        node = node.0 i;
        creation = creation.0 i;
        words = words.0 i;
      },
      words.1,
    )
