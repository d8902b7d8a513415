use Rattle.scope_core.proofs
use proofs.Words.{ap, arith, eq_by_cmp, IfOk-weaker, is_member, map, take_all, text_cmp, ◌∙◌}
use proofs.Making.{alone}
use proofs.Copies.{named, one_found}
use proofs.node_indexes.names_in.Goals as goal

pub returns-in-len1 : goal.returns-in-len1
returns-in-len1 c = λ g.
    let names = c.args.names.now in
    let one = alone names c.only-item.result (omega arith) c.only-item.is in
    grind (arith, one_found, ap)

pub returns : goal.returns
returns c = IfOk-weaker c.of.result _ _ (λ groups there g.
    let names = c.args.names.now in
    there g ∙ ap (λ ks. is_member (eq_by_cmp text_cmp) ks g)
    (c.loop-name.invariant
    ∙ ap (map (λ n. n.1)) (take_all c.loop-name.name-index names c.loop-name-test.false))
    ∙ named g names) c.of.ensures.there
