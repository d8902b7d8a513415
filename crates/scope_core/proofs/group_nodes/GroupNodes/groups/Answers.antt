use Rattle.scope_core.proofs
use proofs.Words
use Words.{ap, arith, is_among, occurrences, same, sorted_listing, sym, text_cmp, texts_total, ◌∙◌}
use proofs.GroupNodes.{found_name, names_apart, names_rise, only_name, still_among}
use proofs.group_nodes.GroupNodes.groups.Goals as goal

pub returns-clause-rises : goal.returns-clause-rises
returns-clause-rises c =
    let es = c.self.inside.nodes.entries in
    let sorted = sorted_listing text_cmp same texts_total _ _ c.sort_unstable.ensures.permutation
    c.sort_unstable.ensures.sorted in
    let named = c.in_ok-groups.ensures.groups in
    names_rise _ sorted.ascends
    (λ g. let n = ap (occurrences same g) named in let s = sorted.counts g in
    omega (arith, names_apart es c.in_ok-groups.ensures.apart g))

pub returns-clause-found : goal.returns-clause-found
returns-clause-found c = λ g h.
    let es = c.self.inside.nodes.entries in
    let sorted = sorted_listing text_cmp same texts_total _ _ c.sort_unstable.ensures.permutation
    c.sort_unstable.ensures.sorted in
    let among = still_among _ _ sorted g ∙ ap (is_among g) c.in_ok-groups.ensures.groups in
    rw (← c.self.view_is) (found_name es c.in_ok-groups.ensures.apart g (sym among ∙ h))

pub returns-clause-only : goal.returns-clause-only
returns-clause-only c = λ g n l.
    let es = c.self.inside.nodes.entries in
    let sorted = sorted_listing text_cmp same texts_total _ _ c.sort_unstable.ensures.permutation
    c.sort_unstable.ensures.sorted in
    let among = still_among _ _ sorted g ∙ ap (is_among g) c.in_ok-groups.ensures.groups in
    among ∙ only_name es g n (rw (← c.self.view_is) at l)
