use Rattle.external_terms.proofs
use proofs.Words.{ap, IsAtom, IsCounted, IsMark, IsTermFault, List, refl, rules, ℕ, ◌++◌, ◌∙◌, ◌∷◌}
use proofs.Words.{◌≡◌}
use proofs.CutLemmas.{body_stands, mark_stands, of_err, of_ok, passes}
use Rattle.external_terms.proofs.piece.behind_atom.Goals as goal

pub returns-in_err-width-clause-refused : goal.returns-in_err-width-clause-refused
returns-in_err-width-clause-refused c =
    let fault : IsTermFault c.in_err-width.field-0.0 IsAtom c.args.bytes.now =
    passes c.in_err-width.field-0.0 IsMark IsAtom (λ r. r) c.args.bytes.now c.args.bytes.now
    mark_stands refl c.in_err-width.ensures.refused in
    search (rules, fault)

pub returns-clause-found : goal.returns-clause-found
returns-clause-found c = let mark = c.in_ok-width.ensures.found in of_ok c.behind_counted.result _
    (λ rest. (atom : List ℕ) × IsAtom atom × (c.args.bytes.now ≡ atom ++ rest.now)) (λ rest found. (
      mark.0 ∷ found.0,
      record {
        width = c.in_ok-width.width;
        byte = mark.0;
        body = found.0;
        tagged = mark.1;
        counted
            = found.1;
        bytes = refl;
      },
      mark.2 ∙ ap (λ l. mark.0 ∷ l) found.2,
    )) c.behind_counted.ensures.found

pub returns-clause-refused : goal.returns-clause-refused
returns-clause-refused c = let mark = c.in_ok-width.ensures.found in
    of_err c.behind_counted.result _ _ (λ fault is. passes fault (IsCounted c.in_ok-width.width)
    IsAtom (λ r. mark.0 ∷ r)
    c.in_ok-width.rest.now c.args.bytes.now (body_stands c.in_ok-width.width mark.0 mark.1) mark.2
    is) c.behind_counted.ensures.refused
