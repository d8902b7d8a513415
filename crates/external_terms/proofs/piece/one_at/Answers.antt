use Rattle.external_terms.proofs
use proofs.Words.{arith, length, rules, ◌<◌}
use proofs.CutLemmas.{number_cut}
use Rattle.external_terms.specs.declared.form.Width.TheVariants as widths
use Rattle.external_terms.proofs.piece.one_at.Goals as goal

pub returns-in_default-clause-refused : goal.returns-in_default-clause-refused
returns-in_default-clause-refused c = let short : length c.args.bytes.now < 1 = search rules in
    number_cut widths.One c.args.bytes.now (λ i. omega (arith, c.type_inv.bytes i)) short
