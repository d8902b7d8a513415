use Rattle.scope_core.proofs
use proofs.Words.{ap, arith, IfOk-weaker, is_eq, key_cmp, lookup, take_all, ◌∙◌}
use proofs.Making.{alone, pairs, pairs_apart, pairs_lookup}
use proofs.node_indexes.members_of.Goals as goal

pub returns-in-len1 : goal.returns-in-len1
returns-in-len1 c = grind (arith, alone, pairs_lookup)

pub returns : goal.returns
returns c = IfOk-weaker c.of-2.result _ _ (λ members found node g own k.
    let rows = c.args.rows.now in
    let all = c.loop-counted.invariant
    ∙ ap pairs (take_all c.loop-counted.counted-index rows c.loop-counted-test.false) in
    let apart = rw (← all) at (pairs_apart node g rows own c.requires) in
    found apart k ∙ ap (λ es. lookup (λ q. is_eq (key_cmp k q)) es) all
    ∙ pairs_lookup node g k rows own) c.of-2.ensures.found
