use Rattle.external_terms.proofs
use proofs.Words.{ap, append_assoc, IsCounted, IsLong, IsNumber, IsTermFault, length, List}
use proofs.Words.{number_bytes, refl, rules, sym, ℕ, ◌++◌, ◌∙◌, ◌≡◌}
use proofs.CutLemmas.{length_stands, of_err, of_ok, passes, text_stands}
use Rattle.external_terms.proofs.piece.behind_counted.Goals as goal

pub returns-in_err-len-clause-refused : goal.returns-in_err-len-clause-refused
returns-in_err-len-clause-refused c =
    let fault : IsTermFault c.in_err-len.field-0.0 (IsCounted c.args.width) c.args.bytes.now =
    passes c.in_err-len.field-0.0 (IsNumber c.args.width) (IsCounted c.args.width) (λ r. r)
    c.args.bytes.now
    c.args.bytes.now (length_stands c.args.width) refl c.in_err-len.ensures.refused in
    search (rules, fault)

pub returns-clause-found : goal.returns-clause-found
returns-clause-found c = of_ok c.behind_bytes.result _
    (λ rest. (body : List ℕ) × IsCounted c.args.width body × (c.args.bytes.now ≡ body ++ rest.now))
    (λ rest found. (
      number_bytes c.args.width (length found.0) ++ found.0,
      record { text = found.0; fits = rw found.1 c.in_ok-len.ensures.fits; bytes = refl },
      c.in_ok-len.ensures.found ∙ ap (λ l. number_bytes c.args.width c.in_ok-len.len ++ l) found.2
          ∙ ap (λ n. number_bytes c.args.width n ++ (found.0 ++ rest.now)) (sym found.1)
          ∙ sym (append_assoc (number_bytes c.args.width (length found.0)) found.0 rest.now),
    )) c.behind_bytes.ensures.found

pub returns-clause-refused : goal.returns-clause-refused
returns-clause-refused c = of_err c.behind_bytes.result _ _ (λ fault is. passes fault (IsLong
    c.in_ok-len.len) (IsCounted c.args.width)
    (λ r. number_bytes c.args.width c.in_ok-len.len ++ r) c.in_ok-len.rest.now c.args.bytes.now
    (text_stands c.args.width c.in_ok-len.len c.in_ok-len.ensures.fits) c.in_ok-len.ensures.found
    is) c.behind_bytes.ensures.refused
