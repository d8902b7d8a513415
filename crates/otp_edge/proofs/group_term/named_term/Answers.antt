use Rattle.otp_edge.proofs
use proofs.Words.{ap, Some, sym, ◌++◌, ◌∙◌}
use Rattle.external_terms.specs.Values.{atom_bytes, binary_bytes}
use proofs.GroupLemmas.{mark_none}
use proofs.NamedLemmas.{named_atom, named_binary, named_hex}
use Rattle.otp_edge.proofs.group_term.named_term.Goals as goal

pub returns-in-Some : goal.returns-in-Some
returns-in-Some c =
    let bytes = c.in-Some.bytes.now in
    ap Some (c.in_ok-put_binary.ensures.ok
    ∙ ap (λ l. l ++ binary_bytes bytes) c.new-term.ensures.items)
    ∙ sym (named_binary c.args.text.now bytes c.in-Some.ensures.found)

pub returns-in-Some-after_mark : goal.returns-in-Some-after_mark
returns-in-Some-after_mark c =
    let digits = c.in-Some-after_mark.digits.now in
    rw (named_hex c.args.text.now digits (mark_none 0x62 c.args.text.now c.in_default.ensures.only)
    c.in-Some-after_mark.ensures.found) c.hex_term.ensures

pub returns : goal.returns
returns c =
    ap Some (c.in_ok-put_atom.ensures.ok
    ∙ ap (λ l. l ++ atom_bytes c.args.text.now) c.new-term-2.ensures.items)
    ∙ sym (named_atom c.args.text.now (mark_none 0x62 c.args.text.now c.in_default.ensures.only)
    (mark_none 0x78 c.args.text.now c.in_default-after_mark.ensures.only))
