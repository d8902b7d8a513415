use Rattle.external_terms.proofs
use proofs.Words.{arith, be_bytes_4, length, rules, ◌<◌}
use proofs.CutLemmas.{number_cut}
use Rattle.dist_types.proofs.FieldLemmas.{front_is_bytes, parts_are}
use Rattle.external_terms.specs.declared.form.Width.TheVariants as widths
use Rattle.external_terms.proofs.piece.four_at.Goals as goal

pub returns-in_default-clause-refused : goal.returns-in_default-clause-refused
returns-in_default-clause-refused c = let short : length c.args.bytes.now < 4 = search rules in
    number_cut widths.Four c.args.bytes.now (λ i. omega (arith, c.type_inv.bytes i)) short

pub returns-clause-found : goal.returns-clause-found
returns-clause-found c =
    let cases = c.in-Some.ensures.cases in
    parts_are 4 _ _ _ _ cases.0 cases.1 (be_bytes_4 c.in-Some.front.now _ (search rules)
    (front_is_bytes 4 c.args.bytes.now _ cases.0 (λ i. omega (arith, c.type_inv.bytes i)))
    c.from_be_bytes.ensures)
