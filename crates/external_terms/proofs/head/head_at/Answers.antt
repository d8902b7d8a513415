use Rattle.external_terms.proofs
use proofs.Words.{ap, form, HasForm, IsBehind, IsHead, IsSomeHead, IsTag, IsTermFault, List, refl}
use proofs.Words.{rules, subst, tag_byte, ℕ, ◌++◌, ◌∙◌, ◌∷◌, ◌≡◌}
use proofs.CutLemmas.{of_err, of_ok, passes}
use proofs.HeadLemmas.{form_stands, tag_stands}
use Rattle.external_terms.proofs.head.head_at.Goals as goal

pub returns-in_err-tag-clause-refused : goal.returns-in_err-tag-clause-refused
returns-in_err-tag-clause-refused c =
    let fault : IsTermFault c.in_err-tag.field-0.0 IsSomeHead c.args.bytes.now =
    passes c.in_err-tag.field-0.0 IsTag IsSomeHead (λ r. r) c.args.bytes.now c.args.bytes.now
    tag_stands refl c.in_err-tag.ensures.refused in
    search (rules, fault)

pub returns-clause-found : goal.returns-clause-found
returns-clause-found c = let tag = c.in_ok-tag.tag in of_ok c.behind_tag.result _
    (λ read. (head : List ℕ) × IsHead head read.0 × (c.args.bytes.now ≡ head ++ read.1.now)) (λ read
    found. (
      tag_byte tag ∷ found.0,
      record {
        tag = tag;
        body = found.0;
        has_form = subst (λ f. HasForm f found.0 read.0)
            c.form_of.ensures found.1;
        bytes = refl;
      },
      c.in_ok-tag.ensures.found ∙ ap (λ l. tag_byte tag ∷ l) found.2,
    )) c.behind_tag.ensures.found

pub returns-clause-refused : goal.returns-clause-refused
returns-clause-refused c = let tag = c.in_ok-tag.tag in
    of_err c.behind_tag.result _ _ (λ fault is. passes fault (IsBehind (form tag)) IsSomeHead (λ r.
    tag_byte tag ∷ r)
    c.in_ok-tag.rest.now c.args.bytes.now (form_stands tag) c.in_ok-tag.ensures.found
    (subst (λ f. IsTermFault fault (IsBehind f) c.in_ok-tag.rest.now) c.form_of.ensures is))
    c.behind_tag.ensures.refused
