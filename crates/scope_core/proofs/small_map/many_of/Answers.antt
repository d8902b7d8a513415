use Rattle.scope_core.proofs
use proofs.Words.{ap, arith, cond, eq_by_cmp, is_eq, keys_of, lookup, Some, take_all, ◌∙◌, ◌≡◌}
use Rattle.std.proofs.lemmas.Map.Keys.{IsDistinct-from_sorted}
use proofs.small_map.many_of.Goals as goal

pub returns : goal.returns
returns g c = λ k.
    let cmp = g.K.Ord.cmp in
    let few = c.args.few.now in
    let all : c.loop-entry.copies.items ≡ few = c.loop-entry.invariant
    ∙ take_all c.loop-entry.entry-index few (grind arith) in
    let apart = rw (← all) at (IsDistinct-from_sorted cmp (keys_of few)
    c.entries-entry-items.ensures.ordered) in
    c.in_ok-insert.ensures.updates.0 k ∙ ap (cond (eq_by_cmp cmp c.args.key k) (Some c.args.value))
    (c.in_ok-map.ensures.found apart k ∙ ap (λ es. lookup (λ q. is_eq (cmp k q)) es) all)
