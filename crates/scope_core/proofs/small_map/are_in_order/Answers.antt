use Rattle.scope_core.proofs
use proofs.Words.{add-one, ap, arith, get_or, is_lt, rules, sym, ◌∙◌}
use Rattle.std.proofs.lemmas.Fn.{always_returns_same}
use proofs.Short.{adjacent_rise}
use proofs.small_map.are_in_order.Goals as goal

pub returns : goal.returns
returns g c = λ yes.
    let lt = λ (x y : g.row.K.Denot × g.row.V.Denot). is_lt (g.K.Ord.cmp x.0 y.0) in
    let es = c.args.entries.now in
    let all = rw yes at (c.is_sorted_by.ensures.cases lt
    (always_returns_same _ _ _ (λ a r h called. search rules))) in
    adjacent_rise g.met.K.Ord.total es (λ i d l.
    ap (λ n. is_lt (g.K.Ord.cmp (get_or es i d).0 (get_or es n d).0)) (sym (add-one i))
    ∙ sym (all i d (omega arith)))
