use Rattle.scope_core.proofs
use proofs.Words.{always_returns_same, ap, Ascends, get, is_held, is_keyed, key_cmp, keys_of, refl}
use proofs.Words.{rules, subst, sym, ◌∙◌}
use proofs.Copies.{keyed_sorted, keys_of_maps, maps_are, names_found, sorted_keys}
use proofs.node_indexes.processes_of.Goals as goal

pub returns-then-processes_rise : goal.returns-then-processes_rise
returns-then-processes_rise c =
    let rows = c.args.rows.now in
    let es = c.in_ok-maps_of.field-0.items in
    let is = c.in_ok-maps_of.ensures in
    let keys = ap keys_of is ∙ keys_of_maps rows in
    names_found rows es (get key_cmp c.in_ok-map.map) c.in_ok-map.ensures.found
    (rw keys (c.if-processes_rise.ensures refl)) (λ k g. ap (is_held k g) is ∙ maps_are k g rows)

pub folded-requires : goal.folded-requires
folded-requires c = subst (λ ns. Ascends key_cmp (keys_of ns)) (sym c.deref.ensures.value)
    (sorted_keys c.sort_by_key.new.self.items (c.in_ok-sort_by_key.ensures.sorted (λ p. p.0)
    (always_returns_same _ _ _ (λ a r q k. search rules))))

pub returns : goal.returns
returns c =
    let rows = c.args.rows.now in
    names_found rows c.in_ok-folded.field-0.items (get key_cmp c.in_ok-map-2.map)
    c.in_ok-map-2.ensures.found c.in_ok-folded.ensures.rises
    (λ k g. c.in_ok-folded.ensures.held k g ∙ ap (is_keyed k g) c.deref.ensures.value
    ∙ keyed_sorted k g rows c.in_ok-names.names.items c.sort_by_key.new.self.items
    c.in_ok-names.ensures c.in_ok-sort_by_key.ensures.permutation)
