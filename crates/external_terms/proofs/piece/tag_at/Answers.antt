use Rattle.external_terms.proofs
use proofs.Words.{arith, IsCut, IsTag, length, nil_from_length, rules, subst, sym, [], ◌<◌, ◌≡◌}
use proofs.CutLemmas.{tag_cut}
use Rattle.external_terms.proofs.piece.tag_at.Goals as goal

pub returns-in_default-clause-refused : goal.returns-in_default-clause-refused
returns-in_default-clause-refused c = let short : length c.args.bytes.now < 1 = search rules in
    let none : c.args.bytes.now ≡ [] = nil_from_length c.args.bytes.now (omega (arith, short)) in
    subst (IsCut IsTag) (sym none) tag_cut
