use Rattle.external_terms.proofs
use proofs.Words.{ap, IsBehind, IsLong, IsNode, IsNumber, IsTermFault, length, number_bytes, refl}
use proofs.Words.{rules, ◌*◌, ◌++◌, ◌+◌, ◌∙◌, ◌≡◌}
use proofs.CutLemmas.{passes}
use proofs.HeadLemmas.{count_stands, first_stands, last_stands, node_stands, reads}
use Rattle.external_terms.proofs.head.behind_tag.Goals as goal

pub returns-in_err-rest-clause-refused : goal.returns-in_err-rest-clause-refused
returns-in_err-rest-clause-refused c =
    let is : IsTermFault c.in_err-rest.field-0.0 (IsLong c.args.form.first) c.args.bytes.now =
    search rules in
    let fault : IsTermFault c.in_err-rest.field-0.0 (IsBehind c.args.form) c.args.bytes.now =
    passes c.in_err-rest.field-0.0 (IsLong c.args.form.first) (IsBehind c.args.form) (λ r. r)
    c.args.bytes.now c.args.bytes.now (first_stands c.args.form) refl is in
    search (rules, fault)

pub returns-in_err-count-clause-refused : goal.returns-in_err-count-clause-refused
returns-in_err-count-clause-refused c =
    let front = c.in_ok-rest.ensures.found in
    let long : length front.0 ≡ c.args.form.first = search rules in
    let fault : IsTermFault c.in_err-count.field-0.0 (IsBehind c.args.form) c.args.bytes.now =
    passes _ (IsNumber c.args.form.count) _ _ _ _ (count_stands c.args.form front.0 long) front.2
    c.in_err-count.ensures.refused in
    search (rules, fault)

pub returns-in_err-rest-2-clause-refused : goal.returns-in_err-rest-2-clause-refused
returns-in_err-rest-2-clause-refused c =
    let f = c.args.form in
    let front = c.in_ok-rest.ensures.found in
    let count = c.in_ok-count.count in
    let long : length front.0 ≡ f.first = search rules in
    let fault : IsTermFault c.in_err-rest-2.field-0.0 (IsBehind f) c.args.bytes.now =
    passes _ (IsNode f.node) _ _ _ _ (node_stands f front.0 count long c.in_ok-count.ensures.fits)
    (front.2 ∙ ap (λ l. front.0 ++ l) c.in_ok-count.ensures.found) c.in_err-rest-2.ensures.refused
    in
    search (rules, fault)

pub returns-in_err-rest-3-clause-refused : goal.returns-in_err-rest-3-clause-refused
returns-in_err-rest-3-clause-refused c =
    let f = c.args.form in
    let front = c.in_ok-rest.ensures.found in
    let count = c.in_ok-count.count in
    let node = c.in_ok-rest-2.ensures.found in
    let long : length front.0 ≡ f.first = search rules in
    let is : IsTermFault c.in_err-rest-3.field-0.0 (IsLong (f.each * count + f.more))
    c.in_ok-rest-2.rest.now = search rules in
    let fault : IsTermFault c.in_err-rest-3.field-0.0 (IsBehind f) c.args.bytes.now =
    passes _ _ _ _ _ _ (last_stands f front.0 count node.0 long c.in_ok-count.ensures.fits node.1)
    (front.2 ∙ ap (λ l. front.0 ++ l) (c.in_ok-count.ensures.found
    ∙ ap (λ l. number_bytes f.count count ++ l) node.2)) is in
    search (rules, fault)

pub returns-clause-found : goal.returns-clause-found
returns-clause-found c =
    let f = c.args.form in
    let front = c.in_ok-rest.ensures.found in
    let node = c.in_ok-rest-2.ensures.found in
    let last = c.in_ok-rest-3.ensures.found in
    let long : length front.0 ≡ f.first = search rules in
    let last_len : length last.0 ≡ f.each * c.in_ok-count.count + f.more = search rules in
    rw c.so_many-2.ensures.value (reads f _ _ _ _ _ front.0 node.0 last.0 c.in_ok-count.count long
    c.in_ok-count.ensures.fits node.1
    last_len front.2 c.in_ok-count.ensures.found node.2 last.2)
