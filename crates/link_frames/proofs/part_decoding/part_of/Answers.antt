use Rattle.link_frames.proofs
use Rattle.link_frames.specs
use proofs.Words.{rows_bytes, rules, sym, text_bytes, ◌++◌, ◌∙◌, ◌∷◌, ◌≡◌}
use specs.Parts.{kind_byte}
use proofs.DecodingLemmas.{found_not_refused, found_so}
use proofs.PartLemmas.{one_message2, part_behind}
use specs.declared.fault.MessageFault.TheVariants as faults
use Rattle.link_frames.proofs.part_decoding.part_of.Goals as goal

pub returns-in_err-number-clause-only : goal.returns-in_err-number-clause-only
returns-in_err-number-clause-only c = λ m spelled.
    let part = part_behind c.args.kind m c.args.scope c.args.bytes.now spelled in
    let rows = part.2.0 in
    let is = part.2.1 in
    absurd (found_not_refused _ _ _ _ (c.place_at.ensures.only part.0 part.1 (rows_bytes rows)
    is.from_one is.fits part.2.2) (sym c.ok_or.ensures.value ∙ c.in_err-number.was))

pub returns-in_err-rows-clause-only : goal.returns-in_err-rows-clause-only
returns-in_err-rows-clause-only c = λ m spelled.
    let part = part_behind c.args.kind m c.args.scope c.args.bytes.now spelled in
    let rows = part.2.0 in
    let is = part.2.1 in
    let place = found_so _ _ _ _ (c.place_at.ensures.only part.0 part.1 (rows_bytes rows)
    is.from_one is.fits part.2.2) (sym c.ok_or.ensures.value ∙ c.in_ok-number.was) in
    let fault : c.in_err-rows.field-0.0 ≡ faults.OutOfMemory = c.in_err-rows.ensures.only rows
    is.few is.some place.2 in
    search (rules, fault)

pub returns-clause-only : goal.returns-clause-only
returns-clause-only c = λ m spelled.
    one_message2 (kind_byte c.args.kind ∷ text_bytes c.args.scope ++ c.args.bytes.now) _ m
    (search rules) spelled
